-- By which statuses the forms answer that read a system text: exactly by what that text stands for.
use Rattle.std.specs.Prelude.{ℕ, ◌≡◌, ◌↔◌, Option, Some, None, List}
use Rattle.system_model.specs.System.{System, Plan, Frame, Source, Pins, system_of}
use Rattle.answer_model.specs.declared.Form.{Form}
use Rattle.answer_model.specs.declared.Form.TheVariants.{Free, Serial, Rounds, Play, Make, Check, Save, Resume, Routes, Wave, PinsOf}
use Rattle.answer_model.specs.declared.Status.{Status}
use Rattle.answer_model.specs.declared.Status.TheVariants.{Done, Usage, SystemFault, SourceFault, ScriptFault}
use Rattle.answer_model.specs.Forms.{form_of_words}
use Rattle.answer_model.specs.Top.{answer}

-- the frame of the system text is refused
abbrev pub IsFrameRefusal : System → Type 0
IsFrameRefusal (Plan plan) = ⊥
IsFrameRefusal (Frame line kind) = Unit {0}
IsFrameRefusal (Source node line kind) = ⊥
IsFrameRefusal (Pins line kind) = ⊥

-- the source of a node is refused
abbrev pub IsSourceRefusal : System → Type 0
IsSourceRefusal (Plan plan) = ⊥
IsSourceRefusal (Frame line kind) = ⊥
IsSourceRefusal (Source node line kind) = Unit {0}
IsSourceRefusal (Pins line kind) = ⊥

-- the pin script is refused
abbrev pub IsScriptRefusal : System → Type 0
IsScriptRefusal (Plan plan) = ⊥
IsScriptRefusal (Frame line kind) = ⊥
IsScriptRefusal (Source node line kind) = ⊥
IsScriptRefusal (Pins line kind) = Unit {0}

-- nothing is refused
abbrev pub RefusesNothing : System → Type 0
RefusesNothing (Plan plan) = Unit {0}
RefusesNothing (Frame line kind) = ⊥
RefusesNothing (Source node line kind) = ⊥
RefusesNothing (Pins line kind) = ⊥

-- the form is that of `run SLOTS`, with a mode or without, of `play SLOTS`, of `save SLOTS`, of `wave SLOTS` or of `check`
abbrev pub ReadsSystem : Option Form → Type 0
ReadsSystem None = ⊥
ReadsSystem (Some (Free slots)) = Unit {0}
ReadsSystem (Some (Serial slots)) = Unit {0}
ReadsSystem (Some (Rounds slots)) = Unit {0}
ReadsSystem (Some (Play slots)) = Unit {0}
ReadsSystem (Some (Make number)) = ⊥
ReadsSystem (Some Check) = Unit {0}
ReadsSystem (Some (Save slots)) = Unit {0}
ReadsSystem (Some (Resume slots)) = ⊥
ReadsSystem (Some Routes) = ⊥
ReadsSystem (Some (Wave slots)) = Unit {0}
ReadsSystem (Some (PinsOf node)) = ⊥

-- to words of such a form, this status is answered exactly where the system of the input is of this kind
abbrev pub AnswersExactly : Status → (System → Type 0) → Type 0
AnswersExactly wanted IsOfKind =
    (words : List (List ℕ)) (input : List ℕ) → ReadsSystem (form_of_words words) → ((answer words input).status ≡ wanted) ↔ IsOfKind (system_of input)

pub record SystemStatuses : Type 0 where
  pub system_fault : AnswersExactly SystemFault IsFrameRefusal
  pub source_fault : AnswersExactly SourceFault IsSourceRefusal
  pub script_fault : AnswersExactly ScriptFault IsScriptRefusal
  pub done : AnswersExactly Done RefusesNothing
  -- words of no form have the status of the usage line
  pub others : (words : List (List ℕ)) (input : List ℕ) → form_of_words words ≡ None → (answer words input).status ≡ Usage
