-- The forms `run SLOTS`, `run SLOTS free`, `run SLOTS serial` and `run SLOTS rounds`: the system runs for so many slots, and its trace is
-- written. How the nodes are run makes no difference to it.
use Rattle.std.specs.Prelude.{ℕ, List}
use Rattle.sys_plan.specs.Plan.{PlanRec}
use Rattle.trace_model.specs.Trace.{trace_text}
use Rattle.answer_model.specs.declared.Answer.{Answer}
use Rattle.answer_model.specs.OnSystem.{on_system}

-- the trace of so many slots
abbrev pub run_text : ℕ → PlanRec → List ℕ
run_text slots plan = trace_text plan slots

abbrev pub run_answer : ℕ → List ℕ → Answer
run_answer slots input = on_system (run_text slots) input
