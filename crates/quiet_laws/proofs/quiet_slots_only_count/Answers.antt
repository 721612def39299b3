use Rattle.quiet_laws.proofs.Slot.{quiet_slot}
use Rattle.quiet_laws.proofs.Slots.{quiet_slots}
use Rattle.quiet_laws.proofs.quiet_slots_only_count.Goals as goal

pub returns-clause-slot : goal.returns-clause-slot
returns-clause-slot c = quiet_slot

pub returns-clause-slots : goal.returns-clause-slots
returns-clause-slots c = quiet_slots
