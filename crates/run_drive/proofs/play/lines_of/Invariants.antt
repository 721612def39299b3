use Rattle.std.proofs.Common.{◌≡◌, ◌++◌, drop, map}
use Rattle.play_model.specs.Play.{played, played_from}
use Rattle.run_drive.specs.Played.{line_of}
use Rattle.run_drive.specs.Stages.{IsAt, schedule_of}
use Rattle.run_drive.proofs.play.lines_of.Given as goal

-- the lines so far, and then those of the steps that are left
abbrev pub invariant-loop-step : goal.invariant-loop-step
invariant-loop-step l = record {
  same_limit : l.stage.limit.value ≡ l.limit;
  is_at : IsAt l.plan.value l.stage;
  tells : map line_of l.lines.items ++ played_from l.plan.value l.limit (schedule_of l.stage) (drop l.step-index l.plan.value.steps) ≡ played l.plan.value l.limit;
}
