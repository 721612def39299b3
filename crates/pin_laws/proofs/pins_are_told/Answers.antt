use Rattle.pin_laws.proofs.Told.{pins_told, changes_told, in_their_slot}
use Rattle.pin_laws.proofs.pins_are_told.Goals as goal

pub returns-clause-driven : goal.returns-clause-driven
returns-clause-driven c = pins_told c.slot_tells_pins.ensures.driven c.slot_tells_pins.ensures.changes

pub returns-clause-changes : goal.returns-clause-changes
returns-clause-changes c = changes_told c.slot_tells_pins.ensures.driven c.slot_tells_pins.ensures.changes

pub returns-clause-in_their_slot : goal.returns-clause-in_their_slot
returns-clause-in_their_slot c = in_their_slot c.slot_tells_pins.ensures.driven c.slot_tells_pins.ensures.changes
