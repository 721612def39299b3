use Rattle.std.proofs.Common.{[], refl, ap, ◌∙◌}
use Rattle.xs_model.specs.Record.{NodeRec, first_node}
use Rattle.net_model.specs.Switch.{is_busy_among}
use Rattle.core_step.specs.Network.{NetworkRec}
use Rattle.core_step.proofs.network.NetworkHolders.is_busy.Goals as goal

-- some node whose inputs are those of the switch, of which the switch tells the same
pub returns : goal.returns
returns c =
    let some_node : NodeRec = record (first_node 0 0 []) { inputs = c.self.inside.switch.inputs } in
    record { value = c.held.ensures.value some_node refl ∙ ap (λ (n : NetworkRec). is_busy_among n.switch.inputs c.args.c) c.self.view_is }
