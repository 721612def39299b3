use Rattle.std.proofs.Common.{◌≤◌, ℕ, subst}
use Rattle.ahead_limits.specs.declared.horizon.Seen.{Seen}
use Rattle.ahead_limits.specs.Horizon.{Sees, horizon_at}
use Rattle.node_runners.specs.Runner.{RunnerRec}
use Rattle.node_runners.proofs.Slots.{links-ahead}
use Rattle.node_runners.proofs.runner.NodeRunner.clock.Goals as goal

pub returns-clause-ahead : goal.returns-clause-ahead
returns-clause-ahead c =
    let i = c.self.inside in
    subst (λ (r : RunnerRec). (end : ℕ) (s : Seen) → Sees r.horizon end s → i.clock ≤ horizon_at s) c.self.view_is
    (links-ahead i.plan.value i.node i.clock i.horizon i.inlets i.outlets i.published c.self.invariant.1.links)
