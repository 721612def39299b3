-- The form `play SLOTS`: the steps of the system's schedule are taken one by one, in a run of so many slots, and what each leaves is written.
use Rattle.std.specs.Prelude.{ℕ, List}
use Rattle.sys_plan.specs.Plan.{PlanRec}
use Rattle.play_model.specs.PlayText.{play_text}
use Rattle.answer_model.specs.declared.Answer.{Answer}
use Rattle.answer_model.specs.OnSystem.{on_system}

-- what the steps leave in a run of so many slots
abbrev pub played_text : ℕ → PlanRec → List ℕ
played_text slots plan = play_text plan slots

abbrev pub play_answer : ℕ → List ℕ → Answer
play_answer slots input = on_system (played_text slots) input
