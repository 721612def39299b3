use Rattle.wave_model.specs.Runs.{wave_of_run}
use Rattle.level_laws.proofs.Waves.{runs_are_waves}
use Rattle.level_laws.proofs.runs_are_waves.Goals as goal

pub returns-clause-waves : goal.returns-clause-waves
returns-clause-waves c = runs_are_waves

pub returns-clause-read : goal.returns-clause-read
returns-clause-read c plan slots is few = c.written_waves_are_read.ensures.read (wave_of_run plan slots) (runs_are_waves plan slots is few)
