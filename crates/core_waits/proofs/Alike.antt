-- Slots in which the conditions of timers hold alike: the same threads are able in them.
use Rattle.std.proofs.Common.{◌≡◌, ℕ, ◌+◌, Bool, true, false, List, [], ◌∷◌, Some, refl, ap, ap₂}
use Rattle.std.specs.Prelude.{◌&&◌, ◌||◌, if◌then◌else◌, is_some}
use Rattle.xs_model.specs.declared.status.TheConstants.{EEBLE, IEBLE}
use Rattle.xs_model.specs.declared.thread.Run.{Run}
use Rattle.xs_model.specs.declared.thread.Run.TheVariants.{Free, Unstarted, AtSync, Going, Paused, Halted}
use Rattle.xs_model.specs.declared.thread.Wait.{Wait}
use Rattle.xs_model.specs.declared.thread.Wait.TheVariants.{Room, Tokens, PortFull, PortEmpty, PortIdle, Timer, Lock, Slaves, Choice, Divider}
use Rattle.xs_model.specs.Status.{has_bits}
use Rattle.xs_model.specs.Record.{CoreRec, EnablingRec, thread_of}
use Rattle.xs_model.specs.Waits.{holds}
use Rattle.xs_model.specs.Enabling.{gives_to}
use Rattle.xs_model.specs.Choices.{first_of, first_ready, allowed_choice, choice_in_mode, choice, ready_in}
use Rattle.xs_model.specs.Picks.{goes_or_holds, is_paused, is_able}
use Rattle.core_waits.specs.Parts.{AreAlike}

first_alike : (gives : EnablingRec → Bool) (one other : ℕ → Bool) → ((n : ℕ) → one n ≡ other n) → (n : ℕ) (list : List EnablingRec) → first_ready gives one n list ≡ first_ready gives other n list
unfolding first_ready
first_alike gives one other same n [] = refl
first_alike gives one other same n (e ∷ rest) =
    ap₂ (λ ready later. if gives e && ready then Some e else later) (same n) (first_alike gives one other same (n + 1) rest)

module _ (core : CoreRec) (slot other : ℕ) (alike : AreAlike core.timers core.slots.division slot other) where
  holds_alike : (wait : Wait) → holds core slot wait ≡ holds core other wait
  holds_alike (Room chan count) = refl
  holds_alike (Tokens chan count) = refl
  holds_alike (PortFull port) = refl
  holds_alike (PortEmpty port) = refl
  holds_alike (PortIdle port) = refl
  holds_alike (Timer timer) = alike.timers timer
  holds_alike (Lock lock) = refl
  holds_alike (Slaves sync) = refl
  holds_alike Choice = refl
  holds_alike Divider = alike.divider

  goes_alike : (run : Run) → goes_or_holds core slot run ≡ goes_or_holds core other run
  goes_alike Free = refl
  goes_alike Unstarted = refl
  goes_alike AtSync = refl
  goes_alike Going = refl
  goes_alike (Paused wait) = holds_alike wait
  goes_alike Halted = refl

  mode_alike : (k : ℕ) (interrupt : Bool) → choice_in_mode k (ready_in core slot) core.enabled interrupt ≡ choice_in_mode k (ready_in core other) core.enabled interrupt
  mode_alike k interrupt =
      ap (λ timer.
      first_of (first_ready (gives_to k interrupt) (ready_in core slot).chans 0 core.enabled.chans)
      (first_of timer (first_ready (gives_to k interrupt) (ready_in core slot).ports 0 core.enabled.ports)))
      (first_alike (gives_to k interrupt) (ready_in core slot).timers (ready_in core other).timers alike.timers 0 core.enabled.timers)

  choice_alike : (k : ℕ) → choice core slot k ≡ choice core other k
  choice_alike k =
      let sr = (thread_of core k).sr in
      ap₂ (λ interrupt event. first_of (allowed_choice (has_bits sr IEBLE) interrupt) (allowed_choice (has_bits sr EEBLE) event)) (mode_alike k true) (mode_alike k false)

  pub able_alike : (k : ℕ) → is_able core k slot ≡ is_able core k other
  able_alike k =
      let run = (thread_of core k).run in
      ap₂ (λ goes choice. goes || (is_paused run && is_some choice)) (goes_alike run) (choice_alike k)
