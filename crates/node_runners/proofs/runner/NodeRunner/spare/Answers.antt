use Rattle.std.proofs.Common.{sym, subst}
use Rattle.node_runners.specs.declared.inlets.Inlets.{Inlets}
use Rattle.node_runners.specs.Inside.{IsRunner}
use Rattle.node_runners.proofs.runner.NodeRunner.spare.Goals as goal

pub invariant_of-self : goal.invariant_of-self
invariant_of-self c =
    let i = c.self.inside in
    (c.self.invariant.0, subst (λ (xs : Inlets). IsRunner i.plan.value i.node i.clock i.horizon i.seat i.pins xs i.outlets i.published) (sym c.taken.ensures.same) c.self.invariant.1)
