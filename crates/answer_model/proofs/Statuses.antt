-- The statuses of the answers to a system.
use Rattle.std.proofs.Common.{◌≡◌, ℕ, ◌↔◌, List, Option, Some, None, refl}
use Rattle.sys_plan.specs.Plan.{PlanRec}
use Rattle.system_model.specs.System.{System, Plan, Frame, Source, Pins, system_of}
use Rattle.answer_model.specs.declared.Form.{Form}
use Rattle.answer_model.specs.declared.Form.TheVariants.{Free, Serial, Rounds, Play, Make, Check, Save, Resume, Routes, Wave, PinsOf}
use Rattle.answer_model.specs.declared.Status.{Status}
use Rattle.answer_model.specs.declared.Status.TheVariants as status
use Rattle.answer_model.specs.Forms.{form_of_words}
use Rattle.answer_model.specs.OnSystem.{answer_to}
use Rattle.answer_model.specs.RunForm.{run_text}
use Rattle.answer_model.specs.PlayForm.{played_text}
use Rattle.answer_model.specs.CheckForm.{check_text}
use Rattle.answer_model.specs.SaveForm.{saved_text}
use Rattle.answer_model.specs.WaveForm.{waved_text}
use Rattle.answer_model.specs.Top.{answer, answer_of_form}
use Rattle.answer_model.specs.SystemStatuses.{IsFrameRefusal, IsSourceRefusal, IsScriptRefusal, RefusesNothing, ReadsSystem, AnswersExactly}

-- whatever a form writes for a plan, this status is answered exactly to systems of this kind
abbrev Tells : Status → (System → Type 0) → Type 0
Tells wanted IsOfKind = (text_for : PlanRec → List ℕ) (system : System) → ((answer_to text_for system).status ≡ wanted) ↔ IsOfKind system

of_form : (wanted : Status) (IsOfKind : System → Type 0) → Tells wanted IsOfKind → (form : Option Form) (input : List ℕ) → ReadsSystem form → ((answer_of_form form input).status ≡ wanted) ↔ IsOfKind (system_of input)
of_form wanted IsOfKind tells None input h = absurd h
of_form wanted IsOfKind tells (Some (Free slots)) input h = tells (run_text slots) (system_of input)
of_form wanted IsOfKind tells (Some (Serial slots)) input h = tells (run_text slots) (system_of input)
of_form wanted IsOfKind tells (Some (Rounds slots)) input h = tells (run_text slots) (system_of input)
of_form wanted IsOfKind tells (Some (Play slots)) input h = tells (played_text slots) (system_of input)
of_form wanted IsOfKind tells (Some (Make number)) input h = absurd h
of_form wanted IsOfKind tells (Some Check) input h = tells check_text (system_of input)
of_form wanted IsOfKind tells (Some (Save slots)) input h = tells (saved_text input slots) (system_of input)
of_form wanted IsOfKind tells (Some (Resume slots)) input h = absurd h
of_form wanted IsOfKind tells (Some Routes) input h = absurd h
of_form wanted IsOfKind tells (Some (Wave slots)) input h = tells (waved_text slots) (system_of input)
of_form wanted IsOfKind tells (Some (PinsOf node)) input h = absurd h

exactly : (wanted : Status) (IsOfKind : System → Type 0) → Tells wanted IsOfKind → AnswersExactly wanted IsOfKind
unfolding answer
exactly wanted IsOfKind tells words input h = of_form wanted IsOfKind tells (form_of_words words) input h

pub differ : (a b : Status) → ¬ (a ≡ b) → (a ≡ b) ↔ ⊥
differ a b differs = (differs, λ h. absurd h)

pub same : (a : Status) → (a ≡ a) ↔ Unit {0}
same a = (λ e. tt, λ h. refl)

frame_told : Tells status.SystemFault IsFrameRefusal
frame_told text_for (Plan plan) = differ _ _ (λ e. cc)
frame_told text_for (Frame line kind) = same _
frame_told text_for (Source node line kind) = differ _ _ (λ e. cc)
frame_told text_for (Pins line kind) = differ _ _ (λ e. cc)

source_told : Tells status.SourceFault IsSourceRefusal
source_told text_for (Plan plan) = differ _ _ (λ e. cc)
source_told text_for (Frame line kind) = differ _ _ (λ e. cc)
source_told text_for (Source node line kind) = same _
source_told text_for (Pins line kind) = differ _ _ (λ e. cc)

script_told : Tells status.ScriptFault IsScriptRefusal
script_told text_for (Plan plan) = differ _ _ (λ e. cc)
script_told text_for (Frame line kind) = differ _ _ (λ e. cc)
script_told text_for (Source node line kind) = differ _ _ (λ e. cc)
script_told text_for (Pins line kind) = same _

plan_told : Tells status.Done RefusesNothing
plan_told text_for (Plan plan) = same _
plan_told text_for (Frame line kind) = differ _ _ (λ e. cc)
plan_told text_for (Source node line kind) = differ _ _ (λ e. cc)
plan_told text_for (Pins line kind) = differ _ _ (λ e. cc)

no_form : (form : Option Form) (input : List ℕ) → form ≡ None → (answer_of_form form input).status ≡ status.Usage
no_form None input e = refl
no_form (Some form) input e = cc

pub exactly_frame : AnswersExactly status.SystemFault IsFrameRefusal
exactly_frame = exactly status.SystemFault IsFrameRefusal frame_told

pub exactly_source : AnswersExactly status.SourceFault IsSourceRefusal
exactly_source = exactly status.SourceFault IsSourceRefusal source_told

pub exactly_script : AnswersExactly status.ScriptFault IsScriptRefusal
exactly_script = exactly status.ScriptFault IsScriptRefusal script_told

pub exactly_plan : AnswersExactly status.Done RefusesNothing
exactly_plan = exactly status.Done RefusesNothing plan_told

pub usage_alone : (words : List (List ℕ)) (input : List ℕ) → form_of_words words ≡ None → (answer words input).status ≡ status.Usage
unfolding answer
usage_alone words input e = no_form (form_of_words words) input e
