-- Threads go by nothing of a port that changes where it only counts; and where no thread may issue, none is picked.
use Rattle.std.proofs.Common.{◌≡◌, ℕ, zero, suc, ◌+◌, Bool, true, false, ◌&&◌, ◌||◌, Option, Some, None, is_some, is_none, List, [], ◌∷◌, length, refl, ap, ap₂, ◌∙◌}
use Rattle.std.specs.Prelude.{if◌then◌else◌}
use Rattle.std.specs.List.{list_any}
use Rattle.std.proofs.lemmas.Bool.{or_parts}
use Rattle.xs_base.specs.Numbers.{Slot, ThreadNumber}
use Rattle.xs_model.specs.declared.thread.Run.{Run}
use Rattle.xs_model.specs.declared.thread.Run.TheVariants.{Free, Unstarted, AtSync, Going, Paused, Halted}
use Rattle.xs_model.specs.declared.thread.Wait.{Wait}
use Rattle.xs_model.specs.declared.thread.Wait.TheVariants.{Room, Tokens, PortFull, PortEmpty, PortIdle, Timer, Lock, Slaves, Choice, Divider}
use Rattle.xs_model.specs.declared.status.TheConstants.{EEBLE, IEBLE}
use Rattle.xs_model.specs.Status.{has_bits}
use Rattle.xs_model.specs.Record.{CoreRec, PortRec, EnablingRec, thread_of, last_of, port_of}
use Rattle.xs_model.specs.PortActions.{is_idle}
use Rattle.xs_model.specs.Enabling.{gives_to}
use Rattle.xs_model.specs.Waits.{holds}
use Rattle.xs_model.specs.Choices.{first_of, first_ready, allowed_choice, choice_in_mode, choice, ready_in, port_is_ready}
use Rattle.xs_model.specs.Picks.{goes_or_holds, is_paused, is_rested, eligible, best_from, number_of_best, picked}
use Rattle.quiet_model.specs.Stirs.{some_eligible, thread_numbers}
use Rattle.quiet_laws.specs.Quiet.{core_counted}
use Rattle.quiet_laws.proofs.Ports.{with_counter, stays, port_counted_at}

first_alike : (gives : EnablingRec → Bool) (one other : ℕ → Bool) → ((n : ℕ) → one n ≡ other n) → (n : ℕ) (list : List EnablingRec) → first_ready gives one n list ≡ first_ready gives other n list
unfolding first_ready
first_alike gives one other same n [] = refl
first_alike gives one other same n (e ∷ rest) =
    ap₂ (λ ready later. if gives e && ready then Some e else later) (same n) (first_alike gives one other same (n + 1) rest)

module _ (from : Slot) (count : ℕ) (core : CoreRec) where
  abbrev counted : CoreRec
  counted = core_counted from count core

  port_stays : {B : Type 0} (asks : PortRec → B) → ((port : PortRec) (counter : ℕ) → asks (with_counter port counter) ≡ asks port) → (p : ℕ) → asks (port_of counted p) ≡ asks (port_of core p)
  port_stays asks same p =
      ap asks (port_counted_at core.clocks from count core.ports p) ∙ stays core.clocks from count asks same (port_of core p)

  holds_alike : (slot : Slot) (wait : Wait) → holds counted slot wait ≡ holds core slot wait
  holds_alike slot (Room chan count) = refl
  holds_alike slot (Tokens chan count) = refl
  holds_alike slot (PortFull port) = port_stays (λ p. is_some p.transfer) (λ p counter. refl) port
  holds_alike slot (PortEmpty port) = port_stays (λ p. is_none p.transfer) (λ p counter. refl) port
  holds_alike slot (PortIdle port) = port_stays is_idle (λ p counter. refl) port
  holds_alike slot (Timer timer) = refl
  holds_alike slot (Lock lock) = refl
  holds_alike slot (Slaves sync) = refl
  holds_alike slot Choice = refl
  holds_alike slot Divider = refl

  goes_alike : (slot : Slot) (run : Run) → goes_or_holds counted slot run ≡ goes_or_holds core slot run
  goes_alike slot Free = refl
  goes_alike slot Unstarted = refl
  goes_alike slot AtSync = refl
  goes_alike slot Going = refl
  goes_alike slot (Paused wait) = holds_alike slot wait
  goes_alike slot Halted = refl

  mode_alike : (slot : Slot) (k : ThreadNumber) (interrupt : Bool) → choice_in_mode k (ready_in counted slot) core.enabled interrupt ≡ choice_in_mode k (ready_in core slot) core.enabled interrupt
  mode_alike slot k interrupt =
      ap (λ port.
      first_of (first_ready (gives_to k interrupt) (ready_in core slot).chans 0 core.enabled.chans)
      (first_of (first_ready (gives_to k interrupt) (ready_in core slot).timers 0 core.enabled.timers) port))
      (first_alike (gives_to k interrupt) (ready_in counted slot).ports (ready_in core slot).ports (port_stays port_is_ready (λ p counter. refl)) 0 core.enabled.ports)

  choice_alike : (slot : Slot) (k : ThreadNumber) → choice counted slot k ≡ choice core slot k
  choice_alike slot k =
      let sr = (thread_of core k).sr in
      ap₂ (λ interrupt event. first_of (allowed_choice (has_bits sr IEBLE) interrupt) (allowed_choice (has_bits sr EEBLE) event)) (mode_alike slot k true) (mode_alike slot k false)

  eligible_alike : (slot : Slot) (k : ThreadNumber) → eligible counted k slot ≡ eligible core k slot
  eligible_alike slot k =
      let run = (thread_of core k).run in
      ap₂ (λ goes choice. (goes || (is_paused run && is_some choice)) && is_rested (last_of core k) slot) (goes_alike slot run) (choice_alike slot k)

  -- whether some thread may issue
  pub some_alike : (slot : Slot) → some_eligible counted slot ≡ some_eligible core slot
  some_alike slot = λ i. list_any (λ k. eligible_alike slot k i) thread_numbers

-- ---- Where no thread may issue

abbrev numbers_from : ℕ → ℕ → List ThreadNumber
numbers_from n zero = []
numbers_from n (suc count) = n ∷ numbers_from (suc n) count

none_best : (may : ThreadNumber → Bool) (n : ThreadNumber) (last : List (Option Slot)) → list_any may (numbers_from n (length last)) ≡ false → best_from may n last ≡ None
unfolding best_from
none_best may n [] none = refl
none_best may n (last ∷ rest) none =
    let parts = or_parts (may n) (list_any may (numbers_from (suc n) (length rest))) none in rw parts.0 (none_best may (suc n) rest parts.1)

pub none_picked : (core : CoreRec) (slot : Slot) → length core.slots.last ≡ 8 → some_eligible core slot ≡ false → picked core slot ≡ None
none_picked core slot eight none =
    ap number_of_best (none_best (λ k. eligible core k slot) 0 core.slots.last (ap (λ count. list_any (λ k. eligible core k slot) (numbers_from 0 count)) eight ∙ none))
