-- What an issue does to last issues: the slot is that of the thread that issues, and perhaps of one that was free. And what it
-- does to ports.
use Rattle.std.proofs.Common.{◌≡◌, ◌≢◌, ◌⊎◌, inl, inr, ℕ, zero, suc, ◌<◌, ◌≤◌, Bool, true, false, ◌&&◌, ◌||◌, Option, Some, None, is_some, List, [], ◌∷◌, length, get_or, slice_set, refl, ap, sym, ◌∙◌, length-set, get_or-set_same, get_or-set_other, arith}
use Rattle.std.proofs.lemmas.Bool.{both_ways}
use Rattle.std.specs.List.{AllByRecursion}
use Rattle.xs_base.specs.Numbers.{Slot, Word, ThreadNumber}
use Rattle.xs_model.specs.declared.event.Happen.{Happen}
use Rattle.xs_model.specs.declared.event.Happen.TheVariants as happen
use Rattle.xs_model.specs.declared.traps.TheConstants.{ILLEGAL_PC}
use Rattle.xs_model.specs.declared.thread.Run.{Run}
use Rattle.xs_model.specs.declared.thread.Run.TheVariants.{Going, Free, Unstarted, AtSync, Paused, Halted}
use Rattle.xs_model.specs.declared.thread.Thread.{Thread}
use Rattle.xs_model.specs.Threads.{fresh_thread}
use Rattle.xs_model.specs.Record.{CoreRec, PortRec, EnablingRec, thread_of, last_of}
use Rattle.xs_model.specs.Choices.{choice}
use Rattle.xs_model.specs.Picks.{goes_or_holds, is_paused, is_able}
use Rattle.xs_instructions.specs.declared.instr.Instr.{Instr}
use Rattle.xs_instructions.specs.Code.{code_at}
use Rattle.step_model.specs.Effect.{Setting, Effect, Done, Pause, Trap, Gone}
use Rattle.step_model.specs.ThreadRows.{is_taken}
use Rattle.step_model.specs.Step.{Issued, halt_unless, settled, executed, issue_begins, issued_with, issued_by}
use Rattle.step_laws.proofs.PinsAfter.{PinsAfter, pins_stay}
use Rattle.step_laws.proofs.RowsAfter.{LastsAfter, as_before, with_got, After, EffectAfter, effect_after}

-- ---- What the thread that issues does

-- thread k traps, or halts
abbrev pub IsOf : ThreadNumber → Happen → Type 0
IsOf k (happen.Trap thread number pc value) = thread ≡ k
IsOf k (happen.Halt thread) = thread ≡ k
IsOf k _ = ⊥

-- the ports of a core after the issue of thread k, and what happened: what an instruction does, or at most a trap and a halt
pub data PortsIssued (k : ThreadNumber) (ports : List PortRec) : List PortRec → List Happen → Type 0 where
  by_row : (after : List PortRec) (happened : List Happen) → PinsAfter ports after happened → PortsIssued k ports after happened
  by_trap : (happened : List Happen) → length happened ≤ 2 → AllByRecursion (IsOf k) happened → PortsIssued k ports ports happened

abbrev pub AfterIssue : CoreRec → Slot → ThreadNumber → Issued → Type 0
AfterIssue core slot k i = LastsAfter core slot i.core.slots.last × PortsIssued k core.ports i.core.ports i.happened

by_effect : (core after : CoreRec) (slot : Slot) (k : ThreadNumber) (happened : List Happen) → After core slot after happened → AfterIssue core slot k (record { core = after; happened = happened })
by_effect core after slot k happened h = (h.0, by_row after.ports happened h.1)

trap_after : (slot : Slot) (core : CoreRec) (k : ThreadNumber) (stands : Bool) (th : Thread) (number : ℕ) (next value : Word) → AfterIssue core slot k (halt_unless stands k th (happen.Trap k number next value ∷ []) core)
trap_after slot core k true th number next value = (as_before, by_trap (happen.Trap k number next value ∷ []) (omega arith) (refl, tt))
trap_after slot core k false th number next value =
    (as_before, by_trap (happen.Trap k number next value ∷ happen.Halt k ∷ []) (omega arith) (refl, (refl, tt)))

settled_after : (code : List Instr) (slot : Slot) (core : CoreRec) (k : ThreadNumber) (ends : Effect) → EffectAfter core slot ends → AfterIssue core slot k (settled code core k ends)
settled_after code slot core k (Done after happened) h = by_effect core after slot k happened h
settled_after code slot core k (Pause after wait happened) h = by_effect core after slot k happened h
settled_after code slot core k (Trap number value) h = trap_after slot core k _ _ number _ value
settled_after code slot core k (Gone after happened) h = by_effect core after slot k happened h

executed_after : (code : List Instr) (here : Setting) (core : CoreRec) (k : ThreadNumber) (found : Option Instr) → AfterIssue core here.slot k (executed code here core k found)
executed_after code here core k None = trap_after here.slot core k _ _ ILLEGAL_PC _ (thread_of core k).pc
executed_after code here core k (Some ins) = settled_after code here.slot core k _ (effect_after here core k ins)

-- it executes its instruction, or what it takes sets its own registers alone
taken_after : (code : List Instr) (here : Setting) (core : CoreRec) (k : ThreadNumber) (taken : Option EnablingRec) → AfterIssue core here.slot k (issued_with code here core k taken)
taken_after code here core k (Some taken) = (as_before, by_row core.ports [] pins_stay)
taken_after code here core k None = executed_after code here core k (code_at code (thread_of core k).pc)

pub issue_ports : (code : List Instr) (here : Setting) (core : CoreRec) (k : ThreadNumber) → PortsIssued k core.ports (issued_by code here core (Some k)).core.ports (issued_by code here core (Some k)).happened
issue_ports code here core k =
    let begun = issue_begins core here.slot k in (taken_after code here begun k (choice begun here.slot k)).1

-- ---- Place by place

-- a place is as it was, or the slot
abbrev pub IsSameOr : Slot → List (Option Slot) → List (Option Slot) → ℕ → Type 0
IsSameOr slot old new i = (get_or new i None ≡ get_or old i None) ⊎ (get_or new i None ≡ Some slot)

set_places : (slot : Slot) (lasts : List (Option Slot)) (j i : ℕ) → IsSameOr slot lasts (slice_set lasts j (Some slot)) i
set_places slot [] j i = inl refl
set_places slot (last ∷ lasts) zero zero = inr refl
set_places slot (last ∷ lasts) zero (suc i) = inl refl
set_places slot (last ∷ lasts) (suc j) zero = inl refl
set_places slot (last ∷ lasts) (suc j) (suc i) = set_places slot lasts j i

then_places : (slot : Slot) (old mid new : List (Option Slot)) (i : ℕ) → IsSameOr slot old mid i → IsSameOr slot mid new i → IsSameOr slot old new i
then_places slot old mid new i h (inl same) = elim h [ inl before ↦ inl (same ∙ before) | inr is ↦ inr (same ∙ is) ]
then_places slot old mid new i h (inr is) = inr is

after_places : (core : CoreRec) (slot : Slot) (lasts : List (Option Slot)) (i : ℕ) → LastsAfter core slot lasts → IsSameOr slot core.slots.last lasts i
after_places core slot lasts i as_before = inl refl
after_places core slot lasts i (with_got j free) = set_places slot core.slots.last j i

after_length : (core : CoreRec) (slot : Slot) (lasts : List (Option Slot)) → LastsAfter core slot lasts → length lasts ≡ length core.slots.last
after_length core slot lasts as_before = refl
after_length core slot lasts (with_got j free) = length-set core.slots.last j (Some slot)

-- a thread that is not free keeps its last issue
after_stays : (core : CoreRec) (slot : Slot) (lasts : List (Option Slot)) (k : ThreadNumber) → is_taken (thread_of core k).run ≡ true → LastsAfter core slot lasts → get_or lasts k None ≡ last_of core k
after_stays core slot lasts k there as_before = refl
after_stays core slot lasts k there (with_got j free) =
    let other : k ≢ j = λ e. both_ways _ free (ap (λ n. is_taken (thread_of core n).run) (sym e) ∙ there) in
    get_or-set_other core.slots.last j k (Some slot) None other

-- a thread that goes, or is paused on what holds or with a choice, is not free
there_if_able : (core : CoreRec) (slot : Slot) (run : Run) (chooses : Bool) → goes_or_holds core slot run || (is_paused run && chooses) ≡ true → is_taken run ≡ true
there_if_able core slot Free chooses able = absurd (both_ways _ refl able)
there_if_able core slot Unstarted chooses able = refl
there_if_able core slot AtSync chooses able = refl
there_if_able core slot Going chooses able = refl
there_if_able core slot (Paused wait) chooses able = refl
there_if_able core slot Halted chooses able = refl

-- what the issue of one thread leaves of the last issues
pub record IssueLasts (slot : Slot) (core after : CoreRec) (p : ThreadNumber) : Type 0 where
  pub as_many : length after.slots.last ≡ length core.slots.last
  pub places : (i : ℕ) → IsSameOr slot core.slots.last after.slots.last i
  pub its : p < length core.slots.last → last_of after p ≡ Some slot
  pub others : (k : ThreadNumber) → k ≢ p → is_able core k slot ≡ true → last_of after k ≡ last_of core k

its_slot : (slot : Slot) (lasts after : List (Option Slot)) (p : ℕ) → p < length lasts → IsSameOr slot (slice_set lasts p (Some slot)) after p → get_or after p None ≡ Some slot
its_slot slot lasts after p within (inl same) = same ∙ get_or-set_same lasts p (Some slot) None within
its_slot slot lasts after p within (inr is) = is

pub issue_lasts : (code : List Instr) (here : Setting) (core : CoreRec) (p : ThreadNumber) → IssueLasts here.slot core (issued_by code here core (Some p)).core p
issue_lasts code here core p =
    let begun = issue_begins core here.slot p in
    let after = (issued_by code here core (Some p)).core in
    let does : LastsAfter begun here.slot after.slots.last = (taken_after code here begun p (choice begun here.slot p)).0 in
    record {
      as_many = after_length begun here.slot after.slots.last does ∙ length-set core.slots.last p (Some here.slot);
      places = λ i. then_places here.slot core.slots.last begun.slots.last after.slots.last i (set_places here.slot core.slots.last p i) (after_places begun here.slot after.slots.last i does);
      its = λ within. its_slot here.slot core.slots.last after.slots.last p within (after_places begun here.slot after.slots.last p does);
      others = λ k other able.
          let same : thread_of begun k ≡ thread_of core k = get_or-set_other core.threads p k _ fresh_thread other in
          let there : is_taken (thread_of begun k).run ≡ true = ap (λ th. is_taken th.run) same ∙ there_if_able core here.slot (thread_of core k).run (is_some (choice core here.slot k)) able in
          after_stays begun here.slot after.slots.last k there does ∙ get_or-set_other core.slots.last p k (Some here.slot) None other;
    }
