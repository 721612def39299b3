-- Snapshots that are read and written.
use Rattle.std.proofs.Common.{◌≡◌, ℕ, ◌≤◌, false, ltb, List, [], ◌++◌, length, Result, Ok, Err, refl, sym, ap, subst, ◌∙◌, inl, inr}
use Rattle.std.specs.Prelude.{IfOk}
use Rattle.std.proofs.lemmas.Bool.{cases_Bool, le-ltb}
use Rattle.sys_plan.specs.Plan.{PlanRec}
use Rattle.system_model.specs.System as stands
use Rattle.system_model.specs.System.{System, system_of}
use Rattle.snap_parts.specs.Parts.{BodyRec}
use Rattle.byte_forms.specs.Forms.{AreBytes, read_whole}
use Rattle.byte_forms.proofs.Steps.{bytes_after}
use Rattle.byte_forms.proofs.Whole.{whole_found, whole_again}
use Rattle.snap_codec.specs.Body.{body}
use Rattle.snap_codec.specs.Snaps as read
use Rattle.snap_codec.specs.Snaps.{SnapRec, SnapRead, head, snap_with, snap_by, snap_after, longest_snapshot, snap_of, snap_bytes, IsSnap, IsSnapOfSome}
use Rattle.snap_codec.proofs.Heads.{head-lawful}
use Rattle.snap_codec.proofs.Bodies.{body-lawful}

-- what bytes stand for, where they stand for a snapshot: it has their plan, and they are its bytes
pub record Stands (bytes : List ℕ) (snap : SnapRec) : Type 0 where
  pub plan : PlanRec
  pub is : IsSnap plan snap
  pub spelled : bytes ≡ snap_bytes plan snap

module _ (bytes text rest : List ℕ) (fit : AreBytes bytes) (spelled : bytes ≡ head.write text ++ rest) (holds : head.Holds text) where
  with_stands : (snap : SnapRec) (plan : PlanRec) (r : Result BodyRec ℕ) → system_of text ≡ stands.Plan plan → read_whole (body plan) rest ≡ r
      → snap_with (length bytes) text r ≡ read.Snap snap → Stands bytes snap
  unfolding snap_bytes
  with_stands snap plan (Ok b) system e is =
      let same : ◌≡◌ {A = SnapRec} (record { text = text; body = b }) snap = cc in
      let f = whole_found (body-lawful plan) rest b (bytes_after bytes (head.write text) rest fit spelled) e in
      subst (λ (s : SnapRec). Stands bytes s) same (record {
        plan = plan;
        is = record { system = system; text = holds; body = f.1 };
        spelled = spelled ∙ ap (λ (more : List ℕ). head.write text ++ more) f.0;
      })
  with_stands snap plan (Err left) system e is = absurd cc

  by_stands : (snap : SnapRec) (system : System) → system_of text ≡ system → snap_by (length bytes) text rest system ≡ read.Snap snap → Stands bytes snap
  by_stands snap (stands.Plan plan) system is = with_stands snap plan (read_whole (body plan) rest) system refl is
  by_stands snap (stands.Frame line kind) system is = absurd cc
  by_stands snap (stands.Source node line kind) system is = absurd cc
  by_stands snap (stands.Pins line kind) system is = absurd cc

after_stands : (bytes : List ℕ) (snap : SnapRec) → AreBytes bytes → (r : Result (List ℕ × List ℕ) ℕ) → head.read bytes ≡ r → snap_after (length bytes) r ≡ read.Snap snap → Stands bytes snap
after_stands bytes snap fit (Ok p) e is =
    let f = head-lawful.found bytes p.0 p.1 fit e in
    by_stands bytes p.0 p.1 fit f.0 f.1 snap (system_of p.0) refl is
after_stands bytes snap fit (Err left) e is = absurd cc

pub snap_stands : (bytes : List ℕ) (snap : SnapRec) → AreBytes bytes → snap_of bytes ≡ read.Snap snap → Stands bytes snap
unfolding snap_of
snap_stands bytes snap fit is =
    elim (cases_Bool (ltb longest_snapshot (length bytes))) [
      | inl long ↦ let no = rw long at is in absurd cc
      | inr fits ↦ let few = rw fits at is in after_stands bytes snap fit (head.read bytes) refl few
    ]

-- the plan is the one that the text has
pub snap_again : (bytes : List ℕ) (snap : SnapRec) (plan : PlanRec) → AreBytes bytes → snap_of bytes ≡ read.Snap snap → system_of snap.text ≡ stands.Plan plan → snap_bytes plan snap ≡ bytes
snap_again bytes snap plan fit is system =
    let s = snap_stands bytes snap fit is in
    let same : s.plan ≡ plan = let a = s.is.system in cc in
    sym (subst (λ (p : PlanRec). bytes ≡ snap_bytes p snap) same s.spelled)

pub snap_form : (bytes : List ℕ) (snap : SnapRec) → AreBytes bytes → snap_of bytes ≡ read.Snap snap → IsSnapOfSome snap
snap_form bytes snap fit is = let s = snap_stands bytes snap fit is in record { plan = s.plan; is = s.is }

pub snap_read : (plan : PlanRec) (snap : SnapRec) → IsSnap plan snap → length (snap_bytes plan snap) ≤ longest_snapshot → snap_of (snap_bytes plan snap) ≡ read.Snap snap
unfolding snap_of snap_bytes
snap_read plan snap is few =
    let fits : ltb longest_snapshot (length (snap_bytes plan snap)) ≡ false = le-ltb _ _ few in
    let e = head-lawful.again snap.text ((body plan).write snap.body) is.text in
    let w = whole_again (body-lawful plan) snap.body is.body in
    rw (fits, e, is.system, w) refl

-- ---- The writer

-- a text and what stands after it, written one after the other
pub snap_written : (plan : PlanRec) (snap : SnapRec) (text empty one two : List ℕ) (b : BodyRec) → IsSnapOfSome snap → system_of snap.text ≡ stands.Plan plan → text ≡ snap.text → b ≡ snap.body
    → empty ≡ [] → one ≡ empty ++ head.write text → ((p : PlanRec) → (body p).Holds b → two ≡ one ++ (body p).write b) → two ≡ snap_bytes plan snap
unfolding snap_bytes
snap_written plan snap text empty one two b s system same_text same_body none e1 e2 =
    let same : s.plan ≡ plan = let a = s.is.system in cc in
    let holds = subst (λ (p : PlanRec). (body p).Holds snap.body) same s.is.body in
    let w = e2 plan (subst (λ (c : BodyRec). (body plan).Holds c) (sym same_body) holds) in
    rw (w, e1, none, same_text, same_body) refl

-- what is written where memory is not wanting
abbrev pub Writes : SnapRec → List ℕ → Type 0
Writes snap text = (plan : PlanRec) → system_of snap.text ≡ stands.Plan plan → text ≡ snap_bytes plan snap

pub written_again : {E : Type 0} (r : Result (List ℕ) E) (snap : SnapRec) → IsSnapOfSome snap → IfOk r (Writes snap)
    → IfOk r (λ text. (bytes : List ℕ) → AreBytes bytes → snap_of bytes ≡ read.Snap snap → text ≡ bytes)
written_again (Ok text) snap s h = λ bytes fit is. h s.plan s.is.system ∙ snap_again bytes snap s.plan fit is s.is.system
written_again (Err e) snap s h = tt

pub written_read : {E : Type 0} (r : Result (List ℕ) E) (snap : SnapRec) → IsSnapOfSome snap → IfOk r (Writes snap) → IfOk r (λ text. length text ≤ longest_snapshot → snap_of text ≡ read.Snap snap)
written_read (Ok text) snap s h = λ few.
    let same = h s.plan s.is.system in
    subst (λ (bytes : List ℕ). snap_of bytes ≡ read.Snap snap) (sym same) (snap_read s.plan snap s.is (subst (λ (bytes : List ℕ). length bytes ≤ longest_snapshot) same few))
written_read (Err e) snap s h = tt
