use Rattle.script_laws.proofs.Levels.{levels}
use Rattle.script_laws.proofs.Taken.{taken}
use Rattle.script_laws.proofs.scripts_of_waves_give_levels.Goals as goal

pub returns : goal.returns
returns c = record { taken = taken; levels = levels }
