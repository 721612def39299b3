use Rattle.step_laws.proofs.SlotEvents.{slot_tells_driven, slot_tells_changes}
use Rattle.step_laws.proofs.slot_tells_pins.Goals as goal

pub returns-clause-driven : goal.returns-clause-driven
returns-clause-driven c = slot_tells_driven

pub returns-clause-changes : goal.returns-clause-changes
returns-clause-changes c = slot_tells_changes
