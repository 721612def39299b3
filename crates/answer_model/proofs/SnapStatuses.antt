-- The statuses of the answers to a snapshot.
use Rattle.std.proofs.Common.{◌≡◌, ℕ, ◌↔◌, Bool, true, false, if◌then◌else◌, List, length, Result, Ok, Err, refl, sym, ap, ◌∙◌, nat_lt}
use Rattle.std.specs.Prelude.{codes}
use Rattle.sys_plan.specs.Plan.{PlanRec}
use Rattle.system_model.specs.System as stands
use Rattle.system_model.specs.System.{System, system_of}
use Rattle.snap_parts.specs.Parts.{BodyRec}
use Rattle.snap_codec.specs.declared.snap_kind.SnapKind.TheVariants.{TooLong}
use Rattle.byte_forms.specs.Forms.{read_whole}
use Rattle.snap_codec.specs.Body.{body}
use Rattle.snap_codec.specs.Snaps.{SnapRec, SnapRead, Snap, Fault, snap_with, snap_by, snap_after, snap_of, longest_snapshot, head}
use Rattle.snap_model.specs.Rest.{rest_text}
use Rattle.answer_model.specs.declared.Status.{Status}
use Rattle.answer_model.specs.declared.Status.TheVariants as status
use Rattle.answer_model.specs.OnSystem.{answer_to}
use Rattle.answer_model.specs.ResumeForm.{refused, is_out_of_range, slot_at, rest_answer, answer_to_snap, resume_answer}
use Rattle.answer_model.specs.Top.{answer, answer_of_form}
use Rattle.answer_model.specs.SnapStatuses.{IsSnapRefusal, GoesOn, Never, TellsSnaps, TellsRests}

-- ---- The text of a snapshot stands for a plan

record HasPlan (text : List ℕ) : Type 0 where
  pub plan : PlanRec
  pub stands : system_of text ≡ stands.Plan plan

text_in : SnapRead → List ℕ → List ℕ
text_in (Snap snap) text = snap.text
text_in (Fault byte kind) text = text

with_text : (count : ℕ) (text : List ℕ) (read : Result BodyRec ℕ) (snap : SnapRec) → snap_with count text read ≡ Snap snap → text ≡ snap.text
unfolding text_in
with_text count text (Ok body) snap e = ap (λ read. text_in read text) e
with_text count text (Err left) snap e = cc

by_plan : (count : ℕ) (text rest : List ℕ) (system : System) (snap : SnapRec) → system_of text ≡ system → snap_by count text rest system ≡ Snap snap → HasPlan snap.text
by_plan count text rest (stands.Plan plan) snap s e = record { plan = plan; stands = sym (ap system_of (with_text count text (read_whole (body plan) rest) snap e)) ∙ s }
by_plan count text rest (stands.Frame line kind) snap s e = cc
by_plan count text rest (stands.Source node line kind) snap s e = cc
by_plan count text rest (stands.Pins line kind) snap s e = cc

after_plan : (count : ℕ) (read : Result (List ℕ × List ℕ) ℕ) (snap : SnapRec) → snap_after count read ≡ Snap snap → HasPlan snap.text
after_plan count (Ok p) snap e = by_plan count p.0 p.1 (system_of p.0) snap refl e
after_plan count (Err left) snap e = cc

short_plan : (long : Bool) (count : ℕ) (read : Result (List ℕ × List ℕ) ℕ) (snap : SnapRec) → (if long then Fault 0 TooLong else snap_after count read) ≡ Snap snap → HasPlan snap.text
short_plan true count read snap e = cc
short_plan false count read snap e = after_plan count read snap e

snap_plan : (input : List ℕ) (snap : SnapRec) → snap_of input ≡ Snap snap → HasPlan snap.text
unfolding snap_of
snap_plan input snap e = short_plan (nat_lt longest_snapshot (length input)) (length input) (head.read input) snap e

-- ---- Its status

-- out of range or not
status_where : Bool → Status
status_where true = status.SystemFault
status_where false = status.Done

rest_given : (slots : ℕ) (snap : SnapRec) (has : HasPlan snap.text) → rest_answer slots snap ≡ record { text = rest_text has.plan snap.body slots; status = status.Done }
rest_given slots snap has = ap (answer_to (λ plan. rest_text plan snap.body slots)) has.stands

where_ranged : (out : Bool) (slots byte : ℕ) (wrong : List ℕ) (snap : SnapRec) → HasPlan snap.text → (if out then refused byte wrong else rest_answer slots snap).status ≡ status_where out
unfolding status_where
where_ranged true slots byte wrong snap has = refl
where_ranged false slots byte wrong snap has = ap (λ a. a.status) (rest_given slots snap has)

-- whatever is read, this status is answered exactly where it is of this kind
abbrev Tells : Status → (ℕ → SnapRead → Type 0) → Type 0
Tells wanted IsOfKind =
    (slots : ℕ) (read : SnapRead) → ((snap : SnapRec) → read ≡ Snap snap → HasPlan snap.text) → ((answer_to_snap slots read).status ≡ wanted) ↔ IsOfKind slots read

of_read : (wanted : Status) (IsOfKind : ℕ → SnapRead → Type 0) → Tells wanted IsOfKind → TellsSnaps wanted IsOfKind
unfolding answer
of_read wanted IsOfKind tells words input slots e =
    let told = tells slots (snap_of input) (λ snap s. snap_plan input snap s) in
    let same : (answer words input).status ≡ (resume_answer slots input).status = ap (λ form. (answer_of_form form input).status) e in
    (λ is. told.0 (sym same ∙ is), λ of_kind. same ∙ told.1 of_kind)

refusal_where : (out : Bool) (s : Status) → s ≡ status_where out → (s ≡ status.SystemFault) ↔ (out ≡ true)
unfolding status_where
refusal_where true s e = (λ is. refl, λ is. e)
refusal_where false s e = (λ is. cc, λ is. cc)

done_where : (out : Bool) (s : Status) → s ≡ status_where out → (s ≡ status.Done) ↔ (out ≡ false)
unfolding status_where
done_where true s e = (λ is. cc, λ is. cc)
done_where false s e = (λ is. refl, λ is. e)

never_source : (out : Bool) (s : Status) → s ≡ status_where out → (s ≡ status.SourceFault) ↔ ⊥
unfolding status_where
never_source true s e = (λ is. cc, λ is. absurd is)
never_source false s e = (λ is. cc, λ is. absurd is)

never_script : (out : Bool) (s : Status) → s ≡ status_where out → (s ≡ status.ScriptFault) ↔ ⊥
unfolding status_where
never_script true s e = (λ is. cc, λ is. absurd is)
never_script false s e = (λ is. cc, λ is. absurd is)

of_snap : (slots : ℕ) (snap : SnapRec) → ((s : SnapRec) → Snap snap ≡ Snap s → HasPlan s.text) → (answer_to_snap slots (Snap snap)).status ≡ status_where (is_out_of_range slots snap)
of_snap slots snap has = where_ranged (is_out_of_range slots snap) slots (slot_at snap) (codes "N3 slot out of range") snap (has snap refl)

refusal_told : Tells status.SystemFault IsSnapRefusal
refusal_told slots (Snap snap) has = refusal_where (is_out_of_range slots snap) _ (of_snap slots snap has)
refusal_told slots (Fault byte kind) has = (λ is. tt, λ is. refl)

done_told : Tells status.Done GoesOn
done_told slots (Snap snap) has = done_where (is_out_of_range slots snap) _ (of_snap slots snap has)
done_told slots (Fault byte kind) has = (λ is. cc, λ is. absurd is)

source_untold : Tells status.SourceFault Never
source_untold slots (Snap snap) has = never_source (is_out_of_range slots snap) _ (of_snap slots snap has)
source_untold slots (Fault byte kind) has = (λ is. cc, λ is. absurd is)

script_untold : Tells status.ScriptFault Never
script_untold slots (Snap snap) has = never_script (is_out_of_range slots snap) _ (of_snap slots snap has)
script_untold slots (Fault byte kind) has = (λ is. cc, λ is. absurd is)

pub exactly_refused : TellsSnaps status.SystemFault IsSnapRefusal
exactly_refused = of_read status.SystemFault IsSnapRefusal refusal_told

pub exactly_done : TellsSnaps status.Done GoesOn
exactly_done = of_read status.Done GoesOn done_told

pub never_source_fault : TellsSnaps status.SourceFault Never
never_source_fault = of_read status.SourceFault Never source_untold

pub never_script_fault : TellsSnaps status.ScriptFault Never
never_script_fault = of_read status.ScriptFault Never script_untold

-- ---- The rest of a trace

in_range : (out : Bool) (slots byte : ℕ) (wrong : List ℕ) (snap : SnapRec) → out ≡ false → (if out then refused byte wrong else rest_answer slots snap) ≡ rest_answer slots snap
in_range true slots byte wrong snap e = cc
in_range false slots byte wrong snap e = refl

pub rests : TellsRests
unfolding answer
rests words input slots snap e read within =
    let has = snap_plan input snap read in
    let by_form : answer words input ≡ answer_to_snap slots (snap_of input) = ap (λ form. answer_of_form form input) e in
    let by_read : answer_to_snap slots (snap_of input) ≡ answer_to_snap slots (Snap snap) = ap (answer_to_snap slots) read in
    record {
      plan = has.plan;
      stands = has.stands;
      rest = by_form ∙ (by_read ∙ (in_range (is_out_of_range slots snap) slots (slot_at snap) (codes "N3 slot out of range") snap within ∙ rest_given slots snap has));
    }
