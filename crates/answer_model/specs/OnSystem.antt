-- What a form answers that reads a system text.
use Rattle.std.specs.Prelude.{ℕ, List}
use Rattle.sys_plan.specs.Plan.{PlanRec}
use Rattle.system_model.specs.System.{System, Plan, Frame, Source, Pins, system_of}
use Rattle.answer_model.specs.declared.Answer.{Answer}
use Rattle.answer_model.specs.declared.Status.TheVariants as status
use Rattle.answer_model.specs.Refusals.{frame_text, source_text, pins_text}

-- to a system: the form's own text for its plan, or the line that refuses it
abbrev pub answer_to : (PlanRec → List ℕ) → System → Answer
answer_to text_for (Plan plan) = record { text = text_for plan; status = status.Done }
answer_to text_for (Frame line kind) = record { text = frame_text line kind; status = status.SystemFault }
answer_to text_for (Source node line kind) = record { text = source_text node line kind; status = status.SourceFault }
answer_to text_for (Pins line kind) = record { text = pins_text line kind; status = status.ScriptFault }

-- to the bytes of the input
abbrev pub on_system : (PlanRec → List ℕ) → List ℕ → Answer
on_system text_for input = answer_to text_for (system_of input)
