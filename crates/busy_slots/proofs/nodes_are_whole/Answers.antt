use Rattle.busy_slots.proofs.Shape.{nodes_are_whole}
use Rattle.busy_slots.proofs.nodes_are_whole.Goals as goal

pub returns : goal.returns
returns c = record { whole = λ plan n slot. nodes_are_whole c.slot_has_few_events.ensures.first c.slot_has_few_events.ensures.slot plan slot n }
