-- The form `resume SLOTS`: a run goes on from the snapshot that is read, and the rest of its trace is written.
use Rattle.std.specs.Prelude.{ℕ, ◌+◌, Bool, ◌||◌, nat_lt, if◌then◌else◌, List, [], ◌∷◌, ◌++◌, length, codes, decimal}
use Rattle.snap_codec.specs.declared.snap_kind.SnapKind.{SnapKind}
use Rattle.snap_codec.specs.declared.snap_kind.SnapKind.TheVariants.{BadSnapshot, SystemRefused, TooLong}
use Rattle.snap_codec.specs.Snaps.{SnapRec, SnapRead, Snap, Fault, snap_of, text_at}
use Rattle.snap_model.specs.Rest.{rest_text}
use Rattle.answer_model.specs.declared.Answer.{Answer}
use Rattle.answer_model.specs.declared.Status.TheVariants as status
use Rattle.answer_model.specs.Forms.{most_slots}
use Rattle.answer_model.specs.OnSystem.{on_system}

-- ---- Refusals

abbrev pub text_of_snap_kind : SnapKind → List ℕ
text_of_snap_kind BadSnapshot = codes "N1 bad snapshot"
text_of_snap_kind SystemRefused = codes "N2 system refused"
text_of_snap_kind TooLong = codes "N4 input too long"

-- `snapshot byte B: ` and what is wrong there
abbrev pub snap_fault_line : ℕ → List ℕ → List ℕ
snap_fault_line byte wrong = codes "snapshot byte " ++ (decimal byte ++ (codes ": " ++ (wrong ++ (10 ∷ []))))

abbrev pub refused : ℕ → List ℕ → Answer
refused byte wrong = record { text = snap_fault_line byte wrong; status = status.SystemFault }

-- ---- Slots

-- a run of so many slots does not go on from a snapshot of a later slot, nor from one that no run comes to
abbrev pub is_out_of_range : ℕ → SnapRec → Bool
is_out_of_range slots snap = nat_lt slots snap.body.slot || nat_lt most_slots snap.body.slot

-- where the slot of a snapshot stands: after the text
abbrev pub slot_at : SnapRec → ℕ
slot_at snap = text_at + length snap.text

-- ---- Answers

-- the rest of the trace, by the plan that the text of the snapshot stands for
abbrev pub rest_answer : ℕ → SnapRec → Answer
rest_answer slots snap = on_system (λ plan. rest_text plan snap.body slots) snap.text

abbrev pub answer_to_snap : ℕ → SnapRead → Answer
answer_to_snap slots (Snap snap) = if is_out_of_range slots snap then refused (slot_at snap) (codes "N3 slot out of range") else rest_answer slots snap
answer_to_snap slots (Fault byte kind) = refused byte (text_of_snap_kind kind)

abbrev pub resume_answer : ℕ → List ℕ → Answer
resume_answer slots input = answer_to_snap slots (snap_of input)
