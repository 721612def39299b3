use Rattle.state_laws.proofs.Before.{first_before, slot_before}
use Rattle.state_laws.proofs.cores_keep_past_slots.Goals as goal

pub returns-clause-first : goal.returns-clause-first
returns-clause-first c = first_before

pub returns-clause-slot : goal.returns-clause-slot
returns-clause-slot c = slot_before
