-- A play at work: the nodes and the arcs of a plan, as far as its schedule has gone.
use Rattle.std.specs.Prelude.{◌≡◌}
use Rattle.sys_plan.specs.declared.Step.{Step}
use Rattle.sys_plan.specs.Plan.{PlanRec}
use Rattle.ahead_limits.specs.Schedule.{ScheduleRec, after_step}
use Rattle.play_model.specs.Play.{played_step}
use Rattle.plan_lanes.specs.Lanes.{numbers_of, AreAt}
use Rattle.run_drive.specs.declared.stage.Stage.{Stage}
use Rattle.run_drive.specs.declared.played.PlayLine.{PlayLine}
use Rattle.run_drive.specs.Played.{line_of}

-- how far the schedule has gone
abbrev pub schedule_of : Stage → ScheduleRec
schedule_of stage = numbers_of stage.runners.items stage.lanes.items

abbrev pub IsAt : PlanRec → Stage → Type 0
IsAt plan stage = AreAt plan stage.limit.value stage.runners.items stage.lanes.items

-- a step was done, and this is its line
pub record Plays (plan : PlanRec) (step : Step) (before after : Stage) (line : PlayLine) : Type 0 where
  pub same_limit : after.limit.value ≡ before.limit.value
  pub is_at : IsAt plan after
  pub goes_on : schedule_of after ≡ after_step plan before.limit.value (schedule_of before) step
  pub tells : line_of line ≡ played_step plan step (schedule_of before) (schedule_of after)
