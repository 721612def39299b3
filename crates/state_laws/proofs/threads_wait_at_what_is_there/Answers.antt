use Rattle.state_laws.proofs.Threads.{first_waits, slot_waits}
use Rattle.state_laws.proofs.threads_wait_at_what_is_there.Goals as goal

pub returns-clause-first : goal.returns-clause-first
returns-clause-first c = first_waits

pub returns-clause-slot : goal.returns-clause-slot
returns-clause-slot c = slot_waits
