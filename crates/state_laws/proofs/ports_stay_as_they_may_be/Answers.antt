use Rattle.state_laws.proofs.Pins.{first_pins, slot_pins}
use Rattle.state_laws.proofs.ports_stay_as_they_may_be.Goals as goal

pub returns-clause-first : goal.returns-clause-first
returns-clause-first c = first_pins

pub returns-clause-slot : goal.returns-clause-slot
returns-clause-slot c = slot_pins
