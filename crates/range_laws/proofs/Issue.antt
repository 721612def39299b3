-- The issue of a slot leaves words, bytes and small numbers.
use Rattle.std.proofs.Common.{◌≡◌, ℕ, zero, suc, ◌+◌, ◌<◌, ◌^◌, ◌-◌, ◌/◌, ◌==◌, ◌&&◌, Bool, true, false, if◌then◌else◌, Option, Some, None, List, [], ◌∷◌, length, arith}
use Rattle.std.specs.Prelude.{slice_get, IfSome}
use Rattle.std.specs.List.{AllByRecursion}
use Rattle.xs_base.specs.Numbers.{Slot, Word, ThreadNumber, PortNumber}
use Rattle.xs_base.specs.Ids.{port_width}
use Rattle.xs_base.specs.declared.numbers.TheConstants.{THREADS}
use Rattle.xs_model.specs.declared.event.Happen.{Happen}
use Rattle.xs_model.specs.declared.status.TheConstants.{IEBLE, EEBLE}
use Rattle.xs_model.specs.declared.thread.Run.TheVariants.{Going, Paused, Halted}
use Rattle.xs_model.specs.declared.thread.Thread.{Thread}
use Rattle.xs_model.specs.declared.traps.TheConstants.{ILLEGAL_PC, KERNEL_CALL}
use Rattle.xs_model.specs.Entry.{trapped, return_address, entered}
use Rattle.xs_model.specs.Enabling.{gives_to}
use Rattle.xs_model.specs.Outside.{LevelsFit}
use Rattle.xs_model.specs.Record.{CoreRec, EnablingRec, EnabledRec, thread_of, port_of, with_last}
use Rattle.xs_model.specs.Choices.{ReadyRec, ready_in, first_of, first_ready, choice_in_mode, allowed_choice, choice}
use Rattle.xs_model.specs.Picks.{eligible, best_from, number_of_best, picked}
use Rattle.xs_model.specs.Status.{has_bits}
use Rattle.xs_instructions.specs.Instr.{InRange}
use Rattle.xs_instructions.specs.Code.{code_start, is_code_place, code_at}
use Rattle.xs_instructions.specs.declared.instr.Instr.{Instr}
use Rattle.step_model.specs.Effect.{Setting, Effect, Done, Pause, Trap, Gone}
use Rattle.step_model.specs.Rows.{effect}
use Rattle.step_model.specs.Step.{halt_unless, trap, settled, executed, issue_begins, issued_with, issued_by, issued}
use Rattle.step_laws.proofs.Best.{IsBest, best_is_best}
use Rattle.port_laws.specs.Facts.{HasFacts}
use Rattle.state_bridge.specs.Fits.{ThreadFits}
use Rattle.range_laws.proofs.Words.{IsWord, low_word, either_word}
use Rattle.range_laws.proofs.Threads.{set_run, trapped_fits, entered_fits}
use Rattle.range_laws.proofs.Core.{CoreFits, EnablingWords, EnabledWords, thread_fits, thread_set, last_set}
use Rattle.range_laws.proofs.Rows.{EffectFits, effect_fits}

-- ---- What a thread takes

abbrev TakenFits : Option EnablingRec → Type 0
TakenFits taken = IfSome taken EnablingWords

ready_fits : (gives : EnablingRec → Bool) (is_ready : ℕ → Bool) (n : ℕ) (all : List EnablingRec) → AllByRecursion EnablingWords all → TakenFits (first_ready gives is_ready n all)
unfolding first_ready
ready_fits gives is_ready n [] h = tt
ready_fits gives is_ready n (e ∷ rest) h = by (gives e && is_ready n) (first_ready gives is_ready (n + 1) rest) (ready_fits gives is_ready (n + 1) rest h.1)
  where
    by : (test : Bool) (others : Option EnablingRec) → TakenFits others → TakenFits (if test then Some e else others)
    by true others fits = h.0
    by false others fits = fits

of_fits : (one other : Option EnablingRec) → TakenFits one → TakenFits other → TakenFits (first_of one other)
of_fits None other this that = that
of_fits (Some e) other this that = this

mode_fits : (k : ThreadNumber) (ready : ReadyRec) (enabled : EnabledRec) (interrupt : Bool) → EnabledWords enabled → TakenFits (choice_in_mode k ready enabled interrupt)
mode_fits k ready enabled interrupt h =
    let gives = gives_to k interrupt in
    of_fits (first_ready gives ready.chans 0 enabled.chans) _ (ready_fits gives ready.chans 0 enabled.chans h.chans.each)
    (of_fits (first_ready gives ready.timers 0 enabled.timers) (first_ready gives ready.ports 0 enabled.ports) (ready_fits gives ready.timers 0 enabled.timers h.timers.each)
    (ready_fits gives ready.ports 0 enabled.ports h.ports.each))

allowed_fits : (allowed : Bool) (taken : Option EnablingRec) → TakenFits taken → TakenFits (allowed_choice allowed taken)
allowed_fits true taken h = h
allowed_fits false taken h = tt

choice_fits : (core : CoreRec) (slot : Slot) (k : ThreadNumber) → EnabledWords core.enabled → TakenFits (choice core slot k)
choice_fits core slot k h =
    let sr = (thread_of core k).sr in
    let ready = ready_in core slot in
    of_fits (allowed_choice (has_bits sr IEBLE) (choice_in_mode k ready core.enabled true)) (allowed_choice (has_bits sr EEBLE) (choice_in_mode k ready core.enabled false))
    (allowed_fits (has_bits sr IEBLE) (choice_in_mode k ready core.enabled true) (mode_fits k ready core.enabled true h))
    (allowed_fits (has_bits sr EEBLE) (choice_in_mode k ready core.enabled false) (mode_fits k ready core.enabled false h))

-- ---- The code

abbrev FitsIfThere : Option Instr → Type 0
FitsIfThere found = IfSome found InRange

got_in_range : (code : List Instr) (i : ℕ) → AllByRecursion InRange code → FitsIfThere (slice_get code i)
got_in_range [] i all = tt
got_in_range (ins ∷ code) zero all = all.0
got_in_range (ins ∷ code) (suc i) all = got_in_range code i all.1

code_in_range : (code : List Instr) (pc : Word) → AllByRecursion InRange code → FitsIfThere (code_at code pc)
code_in_range code pc all = by (is_code_place code pc)
  where
    by : (stands : Bool) → FitsIfThere (if stands then slice_get code ((pc - code_start) / 4) else None)
    by true = got_in_range code ((pc - code_start) / 4) all
    by false = tt

-- ---- The issue by a thread

abbrev pub HaveFacts : CoreRec → Type 0
HaveFacts core = (p : PortNumber) → HasFacts (port_width p) (port_of core p)

module _ (code : List Instr) (here : Setting) (k : ThreadNumber) (few : k < 8) (id : here.id < 2 ^ 16) (shown : LevelsFit here.outside) (all : AllByRecursion InRange code) where
  halt_fits : (core : CoreRec) (stands : Bool) (th : Thread) (happened : List Happen) → CoreFits core → ThreadFits th → CoreFits (halt_unless stands k th happened core).core
  halt_fits core true th happened h new = thread_set core k th h new
  halt_fits core false th happened h new = thread_set core k (record th { run = Halted }) h (set_run th Halted new)

  trap_fits : (core : CoreRec) (number : ℕ) (value : Word) → CoreFits core → IsWord number → IsWord value → CoreFits (trap code core k number value).core
  trap_fits core number value h fn fv =
      let th = thread_of core k in
      let fits = thread_fits core k h in
      let next = return_address number th in
      let after = trapped th number value next in
      halt_fits core (is_code_place code after.pc) after _ h (trapped_fits th number value next fits fn fv (either_word (number == KERNEL_CALL) _ th.pc (low_word _) fits.pc))

  settled_fits : (core : CoreRec) (ends : Effect) → CoreFits core → EffectFits ends → CoreFits (settled code core k ends).core
  settled_fits core (Done after happened) h fits = fits
  settled_fits core (Pause after wait happened) h fits = thread_set after k (record (thread_of after k) { run = Paused wait }) fits (set_run (thread_of after k) (Paused wait) (thread_fits after k fits))
  settled_fits core (Trap number value) h fits = trap_fits core number value h fits.0 fits.1
  settled_fits core (Gone after happened) h fits = fits

  executed_fits : (core : CoreRec) (found : Option Instr) → CoreFits core → HaveFacts core → FitsIfThere found → CoreFits (executed code here core k found).core
  executed_fits core None h facts fits = trap_fits core ILLEGAL_PC (thread_of core k).pc h (omega arith) (thread_fits core k h).pc
  executed_fits core (Some ins) h facts fits = settled_fits core (effect here core k ins) h (effect_fits here core k few id shown h facts ins fits)

  with_fits : (core : CoreRec) (taken : Option EnablingRec) → CoreFits core → HaveFacts core → TakenFits taken → CoreFits (issued_with code here core k taken).core
  with_fits core (Some taken) h facts fits = thread_set core k (entered taken (thread_of core k)) h (entered_fits taken (thread_of core k) fits.0 fits.1 (thread_fits core k h))
  with_fits core None h facts fits = executed_fits core (code_at code (thread_of core k).pc) h facts (code_in_range code (thread_of core k).pc all)

  by_fits : (core : CoreRec) → CoreFits core → HaveFacts core → CoreFits (issued_by code here core (Some k)).core
  by_fits core h facts =
      let noted = with_last core k here.slot in
      let marked = last_set core k here.slot h in
      let begun = issue_begins core here.slot k in
      let begins = thread_set noted k (record (thread_of noted k) { run = Going }) marked (set_run (thread_of noted k) Going (thread_fits noted k marked)) in
      with_fits begun (choice begun here.slot k) begins facts (choice_fits begun here.slot k begins.enabled)

-- ---- The thread that issues is one of eight

abbrev IsOfEight : Option ThreadNumber → Type 0
IsOfEight who = IfSome who (λ k. k < THREADS)

best_is : (may : ThreadNumber → Bool) (lasts : List (Option Slot)) (best : Option (ThreadNumber × Option Slot)) → length lasts ≡ THREADS → IsBest may 0 lasts best → IsOfEight (number_of_best best)
best_is may lasts None eight h = tt
best_is may lasts (Some best) eight (p, b) = omega (arith, b.number, b.within, eight)

picked_is : (core : CoreRec) (slot : Slot) → length core.slots.last ≡ THREADS → IsOfEight (picked core slot)
picked_is core slot eight =
    best_is (λ j. eligible core j slot) core.slots.last (best_from (λ j. eligible core j slot) 0 core.slots.last) eight (best_is_best (λ j. eligible core j slot) 0 core.slots.last)

pub issue_fits : (code : List Instr) (here : Setting) (core : CoreRec) → here.id < 2 ^ 16 → LevelsFit here.outside → AllByRecursion InRange code → CoreFits core → HaveFacts core → CoreFits (issued code here core).core
issue_fits code here core id shown all h facts = by (picked core here.slot) (picked_is core here.slot h.last)
  where
    by : (who : Option ThreadNumber) → IsOfEight who → CoreFits (issued_by code here core who).core
    by None few = h
    by (Some k) few = by_fits code here k few id shown all core h facts
