use Rattle.std.proofs.Common.{◌≤◌, take}
use Rattle.std.specs.List.{AllByRecursion}
use Rattle.run_plan.specs.Quiet.{ComesAfter}
use Rattle.run_plan.proofs.quiet.nothing_comes_to.Given as goal

abbrev pub invariant-loop-wire : goal.invariant-loop-wire
invariant-loop-wire l = record {
  within : l.to ≤ l.limit;
  quiet : AllByRecursion (ComesAfter l.to) (take l.wire-index l.wires);
}
