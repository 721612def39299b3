-- By which statuses `resume SLOTS` answers: exactly by what the bytes of the input stand for.
use Rattle.std.specs.Prelude.{ℕ, ◌≡◌, ◌↔◌, true, false, Some, List}
use Rattle.sys_plan.specs.Plan.{PlanRec}
use Rattle.system_model.specs.System.{Plan, system_of}
use Rattle.snap_codec.specs.Snaps.{SnapRec, SnapRead, Snap, Fault, snap_of}
use Rattle.snap_model.specs.Rest.{rest_text}
use Rattle.answer_model.specs.declared.Answer.{Answer}
use Rattle.answer_model.specs.declared.Form.TheVariants.{Resume}
use Rattle.answer_model.specs.declared.Status.{Status}
use Rattle.answer_model.specs.declared.Status.TheVariants.{Done, SystemFault, SourceFault, ScriptFault}
use Rattle.answer_model.specs.Forms.{form_of_words}
use Rattle.answer_model.specs.ResumeForm.{is_out_of_range}
use Rattle.answer_model.specs.Top.{answer}

-- no run of so many slots goes on from it: it is no snapshot, or its slot is out of range
abbrev pub IsSnapRefusal : ℕ → SnapRead → Type 0
IsSnapRefusal slots (Snap snap) = is_out_of_range slots snap ≡ true
IsSnapRefusal slots (Fault byte kind) = Unit {0}

-- a run of so many slots goes on from it
abbrev pub GoesOn : ℕ → SnapRead → Type 0
GoesOn slots (Snap snap) = is_out_of_range slots snap ≡ false
GoesOn slots (Fault byte kind) = ⊥

abbrev pub Never : ℕ → SnapRead → Type 0
Never slots read = ⊥

-- to words of the form, this status is answered exactly where what the bytes stand for is of this kind
abbrev pub TellsSnaps : Status → (ℕ → SnapRead → Type 0) → Type 0
TellsSnaps wanted IsOfKind =
    (words : List (List ℕ)) (input : List ℕ) (slots : ℕ) → form_of_words words ≡ Some (Resume slots) → ((answer words input).status ≡ wanted) ↔ IsOfKind slots (snap_of input)

-- the rest of the trace of a run of so many slots, by the plan that the text of the snapshot stands for
pub record IsRest (slots : ℕ) (snap : SnapRec) (a : Answer) : Type 0 where
  pub plan : PlanRec
  pub stands : system_of snap.text ≡ Plan plan
  pub rest : a ≡ record { text = rest_text plan snap.body slots; status = Done }

-- to words of the form, the rest is answered of each snapshot that it goes on from
abbrev pub TellsRests : Type 0
TellsRests =
    (words : List (List ℕ)) (input : List ℕ) (slots : ℕ) (snap : SnapRec) → form_of_words words ≡ Some (Resume slots)
    → snap_of input ≡ Snap snap → is_out_of_range slots snap ≡ false → IsRest slots snap (answer words input)

pub record SnapStatuses : Type 0 where
  pub system_fault : TellsSnaps SystemFault IsSnapRefusal
  pub done : TellsSnaps Done GoesOn
  pub rests : TellsRests
  -- the text of a snapshot stands for a plan, so neither of these comes
  pub source_fault : TellsSnaps SourceFault Never
  pub script_fault : TellsSnaps ScriptFault Never
