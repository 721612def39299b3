use Rattle.level_laws.proofs.Shown.{levels_are_shown}
use Rattle.level_laws.proofs.Told.{waves_tell_levels}
use Rattle.level_laws.proofs.waves_tell_levels.Goals as goal

pub returns-clause-told : goal.returns-clause-told
returns-clause-told c = waves_tell_levels

pub returns-clause-shown : goal.returns-clause-shown
returns-clause-shown c = levels_are_shown
