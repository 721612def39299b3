use Rattle.step_laws.proofs.Threads.{first_known}
use Rattle.step_laws.proofs.Issue.{issue_known}
use Rattle.step_laws.proofs.Slot.{slot_known}
use Rattle.step_laws.proofs.status_has_no_other_bit.Goals as goal

pub returns-clause-first : goal.returns-clause-first
returns-clause-first c = λ entry cp_at memory. first_known entry cp_at

pub returns-clause-issue : goal.returns-clause-issue
returns-clause-issue c = issue_known

pub returns-clause-slot : goal.returns-clause-slot
returns-clause-slot c = slot_known
