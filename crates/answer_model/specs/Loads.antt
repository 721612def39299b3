-- What `make NUMBER` answers: for every number the line of its load, which is a ring, and never a refusal.
use Rattle.std.specs.Prelude.{◌≡◌, ℕ, Some, List}
use Rattle.sys_plan.specs.Plan.{PlanRec}
use Rattle.system_model.specs.System.{Plan, system_of}
use Rattle.load_model.specs.Load.{load_text}
use Rattle.load_model.specs.Made.{made_text}
use Rattle.load_laws.specs.Accepted.{IsRing}
use Rattle.answer_model.specs.declared.Answer.{Answer}
use Rattle.answer_model.specs.declared.Form.TheVariants.{Make}
use Rattle.answer_model.specs.declared.Status.TheVariants.{Done}
use Rattle.answer_model.specs.Forms.{form_of_words}
use Rattle.answer_model.specs.Top.{answer}

-- the line of the load of a number, run by the plan that its text stands for
pub record IsMade (n : ℕ) (a : Answer) : Type 0 where
  pub plan : PlanRec
  pub stands : system_of (load_text n) ≡ Plan plan
  pub ring : IsRing n plan
  pub made : a ≡ record { text = made_text n plan; status = Done }

abbrev pub LoadsAreMade : Type 0
LoadsAreMade = (words : List (List ℕ)) (input : List ℕ) (n : ℕ) → form_of_words words ≡ Some (Make n) → IsMade n (answer words input)
