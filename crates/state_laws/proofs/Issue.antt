-- What the issue of a slot makes of a core, as changes.
use Rattle.std.proofs.Common.{◌≡◌, ℕ, zero, suc, ◌<◌, ◌-◌, ◌/◌, Bool, true, false, if◌then◌else◌, Option, Some, None, List, [], ◌∷◌, length, refl, inl, inr, arith}
use Rattle.std.specs.Prelude.{slice_get, IfSome}
use Rattle.std.specs.List.{AllByRecursion}
use Rattle.xs_base.specs.Numbers.{Slot, Word, ThreadNumber}
use Rattle.xs_base.specs.declared.numbers.TheConstants.{THREADS}
use Rattle.xs_model.specs.declared.event.Happen.{Happen}
use Rattle.xs_model.specs.declared.thread.Run.TheVariants.{Going, Paused, Halted}
use Rattle.xs_model.specs.declared.thread.Thread.{Thread}
use Rattle.xs_model.specs.declared.traps.TheConstants.{ILLEGAL_PC}
use Rattle.xs_model.specs.Entry.{trapped, return_address, in_event, in_interrupt, entered}
use Rattle.xs_model.specs.Record.{CoreRec, EnablingRec, thread_of, with_last}
use Rattle.xs_model.specs.Choices.{choice}
use Rattle.xs_model.specs.Picks.{eligible, best_from, number_of_best, picked}
use Rattle.xs_instructions.specs.Instr.{InRange}
use Rattle.xs_instructions.specs.Code.{code_start, is_code_place, code_at}
use Rattle.xs_instructions.specs.declared.instr.Instr.{Instr}
use Rattle.step_model.specs.Effect.{Setting, Effect, Done, Pause, Trap, Gone}
use Rattle.step_model.specs.Rows.{effect}
use Rattle.step_model.specs.Step.{halt_unless, trap, settled, executed, issue_begins, issued_with, issued_by, issued}
use Rattle.step_laws.proofs.Best.{IsBest, best_is_best}
use Rattle.state_laws.proofs.Changes.{Change, Changes, no_change, and_then, both}
use Rattle.state_laws.proofs.Changes as change
use Rattle.state_laws.proofs.Walk.{EffectGoes, effect_goes}

-- ---- The code

abbrev FitsIfThere : Option Instr → Type 0
FitsIfThere None = Unit {0}
FitsIfThere (Some ins) = InRange ins

got_fits : (code : List Instr) (i : ℕ) → AllByRecursion InRange code → FitsIfThere (slice_get code i)
got_fits [] i all = tt
got_fits (ins ∷ code) zero all = all.0
got_fits (ins ∷ code) (suc i) all = got_fits code i all.1

code_fits : (code : List Instr) (pc : Word) → AllByRecursion InRange code → FitsIfThere (code_at code pc)
code_fits code pc all = by (is_code_place code pc)
  where
    by : (stands : Bool) → FitsIfThere (if stands then slice_get code ((pc - code_start) / 4) else None)
    by true = got_fits code ((pc - code_start) / 4) all
    by false = tt

module _ (code : List Instr) (here : Setting) (k : ThreadNumber) where
  abbrev Fits : Type 0
  Fits = AllByRecursion InRange code

  abbrev Makes : CoreRec → CoreRec → Type 0
  Makes core after = Changes Fits here k core after

  halt_goes : (core : CoreRec) (stands : Bool) (th : Thread) (happened : List Happen) → th.run ≡ (thread_of core k).run → Makes core (halt_unless stands k th happened core).core
  halt_goes core true th happened same = and_then core _ no_change (change.sets k th (inl same))
  halt_goes core false th happened same = and_then core _ no_change (change.sets k (record th { run = Halted }) (inr (tt, refl)))

  trap_goes : (core : CoreRec) (number : ℕ) (value : Word) → Makes core (trap code core k number value).core
  trap_goes core number value =
      let th = trapped (thread_of core k) number value (return_address number (thread_of core k)) in
      halt_goes core (is_code_place code th.pc) th _ refl

  settled_goes : (core : CoreRec) (ends : Effect) → EffectGoes Fits here core k ends → Makes core (settled code core k ends).core
  settled_goes core (Done after happened) h = h
  settled_goes core (Pause after wait happened) h = and_then after _ h.0 (change.sets k (record (thread_of after k) { run = Paused wait }) (inr (h.1, refl)))
  settled_goes core (Trap number value) h = trap_goes core number value
  settled_goes core (Gone after happened) h = h

  executed_goes : (core : CoreRec) (found : Option Instr) → (Fits → FitsIfThere found) → Makes core (executed code here core k found).core
  executed_goes core None fits = trap_goes core ILLEGAL_PC (thread_of core k).pc
  executed_goes core (Some ins) fits = settled_goes core (effect here core k ins) (effect_goes Fits here core k ins fits)

  entered_run : (taken : EnablingRec) (th : Thread) → (entered taken th).run ≡ th.run
  entered_run taken th = by taken.interrupt
    where
      by : (interrupt : Bool) → (if interrupt then in_interrupt th taken.vector taken.environment else in_event th taken.vector taken.environment).run ≡ th.run
      by true = refl
      by false = refl

  taken_goes : (core : CoreRec) (taken : Option EnablingRec) → Makes core (issued_with code here core k taken).core
  taken_goes core (Some taken) = and_then core _ no_change (change.sets k (entered taken (thread_of core k)) (inl (entered_run taken (thread_of core k))))
  taken_goes core None = executed_goes core (code_at code (thread_of core k).pc) (λ all. code_fits code (thread_of core k).pc all)

  pub issue_goes : (core : CoreRec) → Makes core (issued_by code here core (Some k)).core
  issue_goes core =
      let noted = with_last core k here.slot in
      let begun = issue_begins core here.slot k in
      let begins : Makes core begun = and_then noted begun (and_then core noted no_change change.issues) (change.sets k (record (thread_of noted k) { run = Going }) (inr (tt, refl))) in
      both Fits here k core begun _ begins (taken_goes begun (choice begun here.slot k))

-- What each change keeps, the issue of a slot keeps.
pub issue_keeps : (code : List Instr) (here : Setting) (core : CoreRec) (IsSo : CoreRec → Type 0)
    → ((k : ThreadNumber) (before after : CoreRec) → Change (AllByRecursion InRange code) here k before after → IsSo before → IsSo after)
    → IsSo core → IsSo (issued code here core).core
issue_keeps code here core IsSo keeps h = by (picked core here.slot)
  where
    by : (who : Option ThreadNumber) → IsSo (issued_by code here core who).core
    by None = h
    by (Some k) = change.all_keep (AllByRecursion InRange code) here k IsSo (keeps k) core _ (issue_goes code here k core) h

-- ---- The thread that issues is one of eight

abbrev IsOfEight : Option ThreadNumber → Type 0
IsOfEight who = IfSome who (λ k. k < THREADS)

best_is : (may : ThreadNumber → Bool) (lasts : List (Option Slot)) (best : Option (ThreadNumber × Option Slot)) → length lasts ≡ THREADS → IsBest may 0 lasts best → IsOfEight (number_of_best best)
best_is may lasts None eight h = tt
best_is may lasts (Some best) eight (p, b) = omega (arith, b.number, b.within, eight)

picked_is : (core : CoreRec) (slot : Slot) → length core.slots.last ≡ THREADS → IsOfEight (picked core slot)
picked_is core slot eight =
    best_is (λ j. eligible core j slot) core.slots.last (best_from (λ j. eligible core j slot) 0 core.slots.last) eight (best_is_best (λ j. eligible core j slot) 0 core.slots.last)

pub issue_of_eight_keeps : (code : List Instr) (here : Setting) (core : CoreRec) (IsSo : CoreRec → Type 0) → length core.slots.last ≡ THREADS
    → ((k : ThreadNumber) → k < THREADS → (before after : CoreRec) → Change (AllByRecursion InRange code) here k before after → IsSo before → IsSo after)
    → IsSo core → IsSo (issued code here core).core
issue_of_eight_keeps code here core IsSo eight keeps h = by (picked core here.slot) (picked_is core here.slot eight)
  where
    by : (who : Option ThreadNumber) → IsOfEight who → IsSo (issued_by code here core who).core
    by None is = h
    by (Some k) is = change.all_keep (AllByRecursion InRange code) here k IsSo (keeps k is) core _ (issue_goes code here k core) h
