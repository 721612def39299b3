use Rattle.std.proofs.Common.{◌∙◌, sym, ap, subst, List}
use Rattle.std.specs.Prelude.{map}
use Rattle.xs_model.specs.declared.event.Event.{Event}
use Rattle.xs_model.specs.FirstEvents.{first_events}
use Rattle.serial_model.specs.Serial.{serial}
use Rattle.trace_model.specs.EventOrder.{told_at, node_after_node, RiseFrom}
use Rattle.trace_model.proofs.SlotOrder.{by_slot-rise, by_slot-of_slot}
use Rattle.trace_laws.proofs.Events.{node_rise}
use Rattle.trace_laws.proofs.OwnOrder.{merged-of_node, first-at, of_slot-told}
use Rattle.trace_laws.proofs.trace_is_in_order.Goals as goal

pub returns-clause-by_slot : goal.returns-clause-by_slot
returns-clause-by_slot c = λ plan slots. by_slot-rise (node_after_node 0 (map first_events (serial plan slots).events))

pub returns-clause-by_node : goal.returns-clause-by_node
returns-clause-by_node c = λ plan slots slot.
    let nodes = (serial plan slots).events in
    by_slot-of_slot slot (node_after_node 0 (map first_events nodes)) ∙ of_slot-told slot 0 nodes

pub returns-clause-own_order : goal.returns-clause-own_order
returns-clause-own_order c = λ plan slots k.
    let nodes = (serial plan slots).events in
    let at = first-at nodes k in
    merged-of_node k (map first_events nodes) (subst (λ (es : List Event). RiseFrom 0 (told_at k es)) (sym at) (node_rise plan slots k))
    ∙ ap (told_at k) at
