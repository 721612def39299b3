-- The form `save SLOTS`: the system runs for so many slots, all nodes together, and its snapshot is written.
use Rattle.std.specs.Prelude.{ℕ, List}
use Rattle.sys_plan.specs.Plan.{PlanRec}
use Rattle.snap_codec.specs.Snaps.{SnapRec, snap_bytes}
use Rattle.snap_model.specs.Saved.{saved_at}
use Rattle.answer_model.specs.declared.Answer.{Answer}
use Rattle.answer_model.specs.OnSystem.{on_system}

-- the snapshot of a run of so many slots by a plan that a text stands for
abbrev pub saved_snap : PlanRec → List ℕ → ℕ → SnapRec
saved_snap plan text slots = record { text = text; body = saved_at plan slots }

abbrev pub saved_text : List ℕ → ℕ → PlanRec → List ℕ
saved_text text slots plan = snap_bytes plan (saved_snap plan text slots)

abbrev pub save_answer : ℕ → List ℕ → Answer
save_answer slots input = on_system (saved_text input slots) input
