use Rattle.busy_slots.proofs.Idle.{first_busy}
use Rattle.busy_slots.proofs.first_busy_slot.Goals as goal

pub returns : goal.returns
returns c = record { first = first_busy c.nodes_are_local.ensures.step c.first_slots.ensures.alike }
