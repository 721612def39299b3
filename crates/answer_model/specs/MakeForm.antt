-- The form `make NUMBER`: the load of the number runs, and a line tells what it came to. The input plays no part.
use Rattle.std.specs.Prelude.{ℕ}
use Rattle.system_model.specs.System.{system_of}
use Rattle.load_model.specs.Load.{load_text}
use Rattle.load_model.specs.Made.{made_text}
use Rattle.answer_model.specs.declared.Answer.{Answer}
use Rattle.answer_model.specs.OnSystem.{answer_to}

-- what the form answers to the system of the load: no load is refused, as `loads_are_made` says
abbrev pub made_answer : ℕ → Answer
made_answer n = answer_to (made_text n) (system_of (load_text n))
