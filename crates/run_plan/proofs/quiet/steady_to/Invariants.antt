use Rattle.std.proofs.Common.{◌≤◌, take}
use Rattle.std.specs.List.{AllByRecursion}
use Rattle.xs_base.specs.Numbers.{Slot}
use Rattle.run_plan.specs.Passes.{IsShownAt}
use Rattle.run_plan.specs.Steady.{IsSteadyTo}
use Rattle.run_plan.proofs.quiet.steady_to.Given as goal

abbrev pub invariant-loop-station : goal.invariant-loop-station
invariant-loop-station l = record {
  within : l.to ≤ l.limit;
  steady : AllByRecursion (IsSteadyTo l.to) (take l.station-index l.stations);
  on : (slot : Slot) → slot ≤ l.limit → AllByRecursion (IsShownAt slot) l.stations → slot ≤ l.to;
}
