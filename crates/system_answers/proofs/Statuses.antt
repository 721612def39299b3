-- By which statuses every form answers to a system text, whatever it writes.
use Rattle.std.proofs.Common.{ℕ, List}
use Rattle.sys_plan.specs.Plan.{PlanRec}
use Rattle.system_model.specs.System.{System, Plan, Frame, Source, Pins}
use Rattle.answer_model.specs.OnSystem.{answer_to}
use Rattle.program_calls.specs.Asked.{IsFormStatus}

pub answer_to-status : (text_for : PlanRec → List ℕ) (system : System) → IsFormStatus (answer_to text_for system).status
answer_to-status text_for (Plan plan) = tt
answer_to-status text_for (Frame line kind) = tt
answer_to-status text_for (Source node line kind) = tt
answer_to-status text_for (Pins line kind) = tt
