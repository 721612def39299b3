use Rattle.std.proofs.Common.{◌≤◌, take}
use Rattle.std.specs.List.{AllByRecursion}
use Rattle.run_plan.specs.Quiet.{ArrivesAfter}
use Rattle.run_plan.proofs.quiet.nothing_arrives_to.Given as goal

abbrev pub invariant-loop-track : goal.invariant-loop-track
invariant-loop-track l = record {
  within : l.to ≤ l.limit;
  quiet : AllByRecursion (ArrivesAfter l.to) (take l.track-index l.tracks);
}
