use Rattle.state_laws.proofs.Owners.{first_names, slot_names}
use Rattle.state_laws.proofs.cores_name_threads.Goals as goal

pub returns-clause-first : goal.returns-clause-first
returns-clause-first c = first_names

pub returns-clause-slot : goal.returns-clause-slot
returns-clause-slot c = slot_names
