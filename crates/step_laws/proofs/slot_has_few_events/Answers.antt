use Rattle.step_laws.proofs.SlotEvents.{first_has_shape, slot_keeps_shape, slot_makes_few, slot_names_there}
use Rattle.step_laws.proofs.slot_has_few_events.Goals as goal

pub returns-clause-first : goal.returns-clause-first
returns-clause-first c = first_has_shape

pub returns-clause-slot : goal.returns-clause-slot
returns-clause-slot c = slot_keeps_shape

pub returns-clause-few : goal.returns-clause-few
returns-clause-few c = slot_makes_few

pub returns-clause-within : goal.returns-clause-within
returns-clause-within c = slot_names_there
