-- Every slot that a core keeps stays before the next one.
use Rattle.std.proofs.Common.{◌≡◌, ◌+◌, ◌<◌, Option, Some, None, List, get_or, slice_set, refl, sym, ap, subst, arith}
use Rattle.std.specs.Prelude.{IfSome}
use Rattle.xs_base.specs.Numbers.{Slot, ThreadNumber}
use Rattle.xs_model.specs.Record.{CoreRec}
use Rattle.step_model.specs.Effect.{Setting}
use Rattle.step_model.specs.Step.{setting_of, before_issue, node_step}
use Rattle.state_laws.specs.Facts.{IsCoreBefore}
use Rattle.state_laws.specs.Laws.{IsSoAtFirst, StaysSo}
use Rattle.state_laws.proofs.Changes.{Change}
use Rattle.state_laws.proofs.Changes as change
use Rattle.state_laws.proofs.Issue.{issue_keeps}
use Rattle.state_laws.proofs.Lists.{each_set, many_at}
use Rattle.state_laws.proofs.Switch.{core_before}

abbrev IsBefore : Slot → Option Slot → Type 0
IsBefore slot last = IfSome last (λ s. s < slot)

pub first_before : IsSoAtFirst (λ rec. IsCoreBefore 0 rec.core)
first_before plan gaps = record { last = λ k. many_at (IsBefore 0) None 8 None k tt tt; division = tt }

later : (slot : Slot) (last : Option Slot) → IsBefore slot last → IsBefore (slot + 1) last
later slot None h = tt
later slot (Some s) h = omega (arith, h)

core_later : (slot : Slot) (core : CoreRec) → IsCoreBefore slot core → IsCoreBefore (slot + 1) core
core_later slot core h = record { last = λ k. later slot (get_or core.slots.last k None) (h.last k); division = later slot core.slots.division h.division }

-- the slot itself is kept of a thread
noted : (slot : Slot) (core after : CoreRec) (j : ThreadNumber) → after.slots.last ≡ slice_set core.slots.last j (Some slot) → after.slots.division ≡ core.slots.division → IsCoreBefore (slot + 1) core → IsCoreBefore (slot + 1) after
noted slot core after j last division h = record {
  last = subst (λ (lasts : List (Option Slot)). (k : ThreadNumber) → IsBefore (slot + 1) (get_or lasts k None)) (sym last)
      (each_set (IsBefore (slot + 1)) None core.slots.last j (Some slot) h.last (omega arith));
  division = subst (IsBefore (slot + 1)) (sym division) h.division;
}

same_slots : (slot : Slot) (core after : CoreRec) → after.slots ≡ core.slots → IsCoreBefore slot core → IsCoreBefore slot after
same_slots slot core after same h = record {
  last = subst (λ (lasts : List (Option Slot)). (k : ThreadNumber) → IsBefore slot (get_or lasts k None)) (sym (ap (λ s. s.last) same)) h.last;
  division = subst (IsBefore slot) (sym (ap (λ s. s.division) same)) h.division;
}

change_before : (S : Type 0) (here : Setting) (k : ThreadNumber) (core after : CoreRec) → Change S here k core after → IsCoreBefore (here.slot + 1) core → IsCoreBefore (here.slot + 1) after
change_before S here k core _ (change.sets j th is) h = same_slots _ core _ refl h
change_before S here k core _ (change.stores memory) h = same_slots _ core _ refl h
change_before S here k core _ change.issues h = noted here.slot core _ k refl refl h
change_before S here k core _ (change.frees_itself is) h = same_slots _ core _ refl h
change_before S here k core _ (change.lets_slaves_go n) h = same_slots _ core _ refl h
change_before S here k core _ (change.frees_slaves n) h = same_slots _ core _ refl h
change_before S here k core _ (change.gets_thread j is) h = noted here.slot core _ j refl refl h
change_before S here k core _ (change.gets_slave j n is master) h = noted here.slot core _ j refl refl h
change_before S here k core _ (change.gets_sync n) h = same_slots _ core _ refl h
change_before S here k core _ (change.frees_sync n) h = same_slots _ core _ refl h
change_before S here k core _ (change.sets_lock n lock is) h = same_slots _ core _ refl h
change_before S here k core _ (change.sets_timer n timer) h = same_slots _ core _ refl h
change_before S here k core _ (change.sets_clock n clock) h = same_slots _ core _ refl h
change_before S here k core _ (change.sets_chan c chan is) h = same_slots _ core _ refl h
change_before S here k core _ (change.sets_port p acted port there row left) h = same_slots _ core _ refl h
change_before S here k core _ (change.starts_clock n) h = same_slots _ core _ refl h
change_before S here k core _ (change.sets_enabled enabled is) h = same_slots _ core _ refl h
change_before S here k core _ change.divides h = record { last = h.last; division = omega arith }

pub slot_before : StaysSo (λ slot rec. IsCoreBefore slot rec.core)
unfolding node_step
slot_before fixed rec slot arrivals pins h =
    let before = before_issue fixed rec slot arrivals pins in
    let here = setting_of fixed slot pins before.rec in
    let same : before.rec.core.slots ≡ rec.core.slots = ap (λ (core : CoreRec). core.slots) (core_before fixed rec slot arrivals pins) in
    issue_keeps fixed.code here before.rec.core (IsCoreBefore (slot + 1)) (λ k core after changes. change_before _ here k core after changes)
    (core_later slot before.rec.core (same_slots slot rec.core before.rec.core same h))
