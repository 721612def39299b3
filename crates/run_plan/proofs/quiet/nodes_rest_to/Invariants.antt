use Rattle.std.proofs.Common.{◌≤◌, take}
use Rattle.std.specs.List.{AllByRecursion}
use Rattle.run_plan.specs.Quiet.{RestsTo}
use Rattle.run_plan.proofs.quiet.nodes_rest_to.Given as goal

abbrev pub invariant-loop-station : goal.invariant-loop-station
invariant-loop-station l = record {
  within : l.to ≤ l.limit;
  quiet : AllByRecursion (RestsTo l.from l.to) (take l.station-index l.stations);
}
