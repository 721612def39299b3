use Rattle.std.proofs.Common.{ℕ, ◌≡◌, ◌<◌, ◌≤◌, None}
use Rattle.sys_plan.specs.Plan.{incoming}
use Rattle.node_runners.proofs.starts.reached_of.Given as goal

abbrev pub invariant-loop-reached : goal.invariant-loop-reached
invariant-loop-reached l = record {
  within : l.reached ≤ 8;
  rest : (end : ℕ) → l.reached ≤ end → end < 8 → incoming l.plan l.n end ≡ None;
}

abbrev pub decreases-loop-reached : goal.decreases-loop-reached
decreases-loop-reached l = l.reached
