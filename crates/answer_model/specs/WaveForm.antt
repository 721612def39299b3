-- The form `wave SLOTS`: the system runs for so many slots, all nodes together, and the levels of all its pins are written.
use Rattle.std.specs.Prelude.{ℕ, List}
use Rattle.sys_plan.specs.Plan.{PlanRec}
use Rattle.wave_model.specs.Runs.{wave_text}
use Rattle.answer_model.specs.declared.Answer.{Answer}
use Rattle.answer_model.specs.OnSystem.{on_system}

-- the wave of so many slots
abbrev pub waved_text : ℕ → PlanRec → List ℕ
waved_text slots plan = wave_text plan slots

abbrev pub wave_answer : ℕ → List ℕ → Answer
wave_answer slots input = on_system (waved_text slots) input
