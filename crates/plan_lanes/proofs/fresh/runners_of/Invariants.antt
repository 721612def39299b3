use Rattle.std.proofs.Common.{◌≡◌, length}
use Rattle.node_runners.specs.Runner.{new_runner}
use Rattle.plan_lanes.specs.Lanes.{AllAt}
use Rattle.plan_lanes.proofs.fresh.runners_of.Given as goal

abbrev pub invariant-loop-n : goal.invariant-loop-n
invariant-loop-n l = record {
  count : length l.runners.items ≡ l.n;
  start : AllAt (λ n r. r ≡ new_runner l.plan l.limit n) l.runners.items;
}
