use Rattle.std.proofs.Common.{ℕ, ◌≡◌, ◌<◌, length}
use Rattle.sys_plan.specs.Plan.{incoming}
use Rattle.node_runners.specs.Queue.{inlet_at}
use Rattle.node_runners.specs.Starts.{first_inlet}
use Rattle.node_runners.proofs.starts.inlets_of.Given as goal

abbrev pub invariant-loop-end : goal.invariant-loop-end
invariant-loop-end l = record {
  count : length l.inlets.items ≡ l.end;
  fresh : (k : ℕ) → k < l.end → inlet_at l.inlets.items k ≡ first_inlet l.plan (incoming l.plan l.n k);
}
