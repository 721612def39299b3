-- What a form finds that reads a system text.
use Rattle.std.specs.Prelude.{ℕ, ◌≡◌, List}
use Rattle.sys_plan.specs.Plan.{PlanRec}
use Rattle.system_model.specs.System.{System, Plan}
use Rattle.answer_model.specs.OnSystem.{answer_to}
use Rattle.system_answers.specs.declared.on_system.Reading.{Reading}
use Rattle.system_answers.specs.declared.on_system.Reading.TheVariants as reading

-- the plan of the system, or its refusal: what every form answers to it, whatever it writes for a plan
abbrev pub IsReading : System → Reading → Type 0
IsReading system (reading.System plan) = system ≡ Plan plan
IsReading system (reading.Refused answer) = (text_for : PlanRec → List ℕ) → answer ≡ answer_to text_for system
