use Rattle.std.proofs.Common.{◌≡◌, length}
use Rattle.plan_lanes.specs.Lanes.{AllAt, IsNewLane}
use Rattle.plan_lanes.proofs.fresh.lanes_of.Given as goal

abbrev pub invariant-loop-link : goal.invariant-loop-link
invariant-loop-link l = record {
  count : length l.lanes.items ≡ l.link;
  start : AllAt (IsNewLane l.plan.value) l.lanes.items;
}
