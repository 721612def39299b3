use Rattle.step_laws.proofs.EightSlots.{eligible_issues, slot_keeps_all}
use Rattle.step_laws.proofs.eligible_thread_issues.Goals as goal

pub returns-clause-law : goal.returns-clause-law
returns-clause-law c = eligible_issues

pub returns-clause-slot : goal.returns-clause-slot
returns-clause-slot c = slot_keeps_all
