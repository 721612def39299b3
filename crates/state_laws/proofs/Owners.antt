-- Who enabled what gives events, and who owns a lock, stay threads.
use Rattle.std.proofs.Common.{◌≡◌, ◌⊎◌, inl, inr, ℕ, ◌<◌, Option, Some, None, List, length, get_or, slice_set, refl, sym, subst, ◌∙◌, length-set}
use Rattle.std.specs.Prelude.{IfSome}
use Rattle.xs_base.specs.Numbers.{Slot, ThreadNumber}
use Rattle.xs_base.specs.declared.numbers.TheConstants.{THREADS}
use Rattle.xs_model.specs.Record.{CoreRec, EnabledRec, LockRec, unused_lock, sync_of, lock_of}
use Rattle.step_model.specs.Effect.{Setting}
use Rattle.step_model.specs.Step.{setting_of, before_issue, node_step}
use Rattle.state_laws.specs.Facts.{IsThread, AreByThreads, NamesThreads}
use Rattle.state_laws.specs.Laws.{IsSoAtFirst, StaysSo}
use Rattle.state_laws.proofs.Changes.{Change}
use Rattle.state_laws.proofs.Changes as change
use Rattle.state_laws.proofs.Enabling.{first_by, without_by, without_all_by}
use Rattle.state_laws.proofs.Issue.{issue_of_eight_keeps}
use Rattle.state_laws.proofs.Lists.{each_set, many_at}
use Rattle.state_laws.proofs.Switch.{core_before}

abbrev HasOwner : LockRec → Type 0
HasOwner lock = IsThread lock.owner

-- the same by the parts of a core that it is about
record Name (lasts : List (Option Slot)) (enabled : EnabledRec) (locks : List LockRec) : Type 0 where
  lasts_are : length lasts ≡ THREADS
  enabled_are : AreByThreads enabled
  owners_are : (n : ℕ) → HasOwner (get_or locks n unused_lock)

abbrev Names : CoreRec → Type 0
Names core = Name core.slots.last core.enabled core.locks

names : (core : CoreRec) → NamesThreads core → Names core
names core h = record { lasts_are = h.lasts; enabled_are = h.enabled; owners_are = h.owners }

named : (core : CoreRec) → Names core → NamesThreads core
named core h = record { lasts = h.lasts_are; enabled = h.enabled_are; owners = h.owners_are }

noted : (core : CoreRec) (j : ThreadNumber) (slot : Slot) → Names core → Name (slice_set core.slots.last j (Some slot)) core.enabled core.locks
noted core j slot h = record { lasts_are = length-set core.slots.last j (Some slot) ∙ h.lasts_are; enabled_are = h.enabled_are; owners_are = h.owners_are }

enabled_so : (core : CoreRec) (enabled : EnabledRec) → Names core → AreByThreads enabled → Name core.slots.last enabled core.locks
enabled_so core enabled h by = record { lasts_are = h.lasts_are; enabled_are = by; owners_are = h.owners_are }

owner_is : (k : ThreadNumber) (owner before : Option ThreadNumber) → k < THREADS → IsThread before → (owner ≡ before) ⊎ IfSome owner (λ o. o ≡ k) → IsThread owner
owner_is k owner before thread was (inl is) = subst IsThread (sym is) was
owner_is k None before thread was (inr is) = tt
owner_is k (Some o) before thread was (inr is) = subst (λ (n : ℕ). n < THREADS) (sym is) thread

change_names : (S : Type 0) (here : Setting) (k : ThreadNumber) → k < THREADS → (core after : CoreRec) → Change S here k core after → Names core → Names after
change_names S here k thread core _ (change.sets j th is) h = h
change_names S here k thread core _ (change.stores memory) h = h
change_names S here k thread core _ change.issues h = noted core k here.slot h
change_names S here k thread core _ (change.frees_itself is) h = enabled_so core _ h (without_by k core.enabled h.enabled_are)
change_names S here k thread core _ (change.lets_slaves_go n) h = h
change_names S here k thread core _ (change.frees_slaves n) h = enabled_so core _ h (without_all_by (sync_of core n).slaves core.enabled h.enabled_are)
change_names S here k thread core _ (change.gets_thread j is) h = noted core j here.slot h
change_names S here k thread core _ (change.gets_slave j n is master) h = noted core j here.slot h
change_names S here k thread core _ (change.gets_sync n) h = h
change_names S here k thread core _ (change.frees_sync n) h = h
change_names S here k thread core _ (change.sets_lock n lock is) h = record {
  lasts_are = h.lasts_are;
  enabled_are = h.enabled_are;
  owners_are = each_set HasOwner unused_lock core.locks n lock h.owners_are (owner_is k lock.owner (lock_of core n).owner thread (h.owners_are n) is);
}
change_names S here k thread core _ (change.sets_timer n timer) h = h
change_names S here k thread core _ (change.sets_clock n clock) h = h
change_names S here k thread core _ (change.sets_chan c chan is) h = h
change_names S here k thread core _ (change.sets_port p acted port there row left) h = h
change_names S here k thread core _ (change.starts_clock n) h = h
change_names S here k thread core _ (change.sets_enabled enabled is) h = enabled_so core enabled h (is thread h.enabled_are)
change_names S here k thread core _ change.divides h = h

pub first_names : IsSoAtFirst (λ rec. NamesThreads rec.core)
first_names plan gaps = record { lasts = refl; enabled = first_by; owners = λ n. many_at HasOwner unused_lock 4 unused_lock n tt tt }

pub slot_names : StaysSo (λ slot rec. NamesThreads rec.core)
unfolding node_step
slot_names fixed rec slot arrivals pins h =
    let before = before_issue fixed rec slot arrivals pins in
    let here = setting_of fixed slot pins before.rec in
    let same = core_before fixed rec slot arrivals pins in
    let begun : Names before.rec.core = subst Names (sym same) (names rec.core h) in
    named _ (issue_of_eight_keeps fixed.code here before.rec.core Names begun.lasts_are (λ k thread core after changes. change_names _ here k thread core after changes) begun)
