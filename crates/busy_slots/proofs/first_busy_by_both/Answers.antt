use Rattle.busy_slots.proofs.Brought.{first_by_both}
use Rattle.busy_slots.proofs.first_busy_by_both.Goals as goal

pub returns : goal.returns
returns c = record { first = first_by_both c.first_busy_slot.ensures.first }
