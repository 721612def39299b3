use Rattle.ahead_limits.proofs.Kept.{steps_keep_bounds, no_step_falls, schedules_keep_bounds}
use Rattle.ahead_limits.proofs.laws.schedules_keep_their_bounds.Goals as goal

pub returns : goal.returns
returns c = record { step = steps_keep_bounds; none_falls = no_step_falls; all = schedules_keep_bounds }
