use Rattle.std.proofs.Common.{◌≡◌, true, [], refl, sym, ◌∙◌, subst}
use Rattle.xs_model.specs.Record.{NodeRec}
use Rattle.switch_routes.specs.Rows.{AllCountsOf}
use Rattle.quiet_model.specs.Still.{network_is_still}
use Rattle.core_step.specs.Core.{CoreValue}
use Rattle.core_step.specs.Inside.{value_of}
use Rattle.core_step.proofs.node_core.Core.is_still.Goals as goal

-- of some node with these link ends, and else of what the core keeps, the network tells it
pub returns-then-still-clause-network : goal.returns-then-still-clause-network
returns-then-still-clause-network c = λ ports links counts.
    let v = value_of c.self.inside in
    let some_node : NodeRec = record { core = v.core; inputs = v.inputs; links = links; levels = [] } in
    subst (λ (w : CoreValue). AllCountsOf w.links links → network_is_still w.core.chans links w.inputs ≡ true) c.self.view_is
    (λ its. sym (c.still.ensures.value some_node refl refl its) ∙ c.if-still.true) counts
