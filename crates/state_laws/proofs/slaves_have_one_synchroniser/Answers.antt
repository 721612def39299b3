use Rattle.state_laws.proofs.Slaves.{first_slaves, slot_slaves}
use Rattle.state_laws.proofs.slaves_have_one_synchroniser.Goals as goal

pub returns-clause-first : goal.returns-clause-first
returns-clause-first c = first_slaves

pub returns-clause-slot : goal.returns-clause-slot
returns-clause-slot c = slot_slaves
