use Rattle.step_laws.proofs.Driven.{first_fits_pins, slot_fits_pins}
use Rattle.step_laws.proofs.ports_drive_what_fits.Goals as goal

pub returns-clause-first : goal.returns-clause-first
returns-clause-first c = first_fits_pins

pub returns-clause-slot : goal.returns-clause-slot
returns-clause-slot c = slot_fits_pins
