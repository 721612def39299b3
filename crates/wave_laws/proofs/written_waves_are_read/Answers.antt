use Rattle.wave_laws.proofs.Written.{lines_read, written_read}
use Rattle.wave_laws.proofs.written_waves_are_read.Goals as goal

pub returns : goal.returns
returns c = record { read = written_read; lines = lines_read }
