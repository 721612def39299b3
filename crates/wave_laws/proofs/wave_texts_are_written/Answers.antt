use Rattle.wave_laws.proofs.Read.{read_is_wave, read_is_written}
use Rattle.wave_laws.proofs.wave_texts_are_written.Goals as goal

pub returns-clause-waves : goal.returns-clause-waves
returns-clause-waves c = read_is_wave

pub returns-clause-lines : goal.returns-clause-lines
returns-clause-lines c = read_is_written
