-- What rows leave of a core, where they change nothing but another thing of it: its threads, their last issues, and what its
-- ports drive.
use Rattle.std.proofs.Common.{◌≡◌, ℕ, Bool, true, false, ◌==◌, if◌then◌else◌, Option, Some, None, [], option_map, refl}
use Rattle.xs_base.specs.Numbers.{Word, ThreadNumber, ChanNumber}
use Rattle.xs_model.specs.declared.modes.TheConstants.{OFF, ON, NO_CONDITION, AFTER, EVENT, INTERRUPT, STOP, START}
use Rattle.xs_model.specs.declared.resource.Res.{Res}
use Rattle.xs_model.specs.declared.resource.Res.TheVariants as res
use Rattle.xs_model.specs.declared.resource.Resource.{Resource}
use Rattle.xs_model.specs.declared.resource.Resource.TheVariants as resource
use Rattle.xs_model.specs.Record.{CoreRec, ChanRec, TimerRec, ClockRec, SyncRec, LockRec, EnablingRec, chan_of, timer_of, clock_of, sync_of, lock_of}
use Rattle.xs_model.specs.Syncs.{freed_sync, freed_lock}
use Rattle.xs_model.specs.Time.{freed_timer, with_after, on_clock, turned_off, started, stopped}
use Rattle.xs_model.specs.Enabling.{in_mode}
use Rattle.net_model.specs.Chans.{freed_chan}
use Rattle.step_model.specs.Effect.{Setting}
use Rattle.step_model.specs.TimeRows.{timer_becomes, clock_becomes}
use Rattle.step_model.specs.EventRows.{eventful, with_changed}
use Rattle.step_model.specs.ModeRows.{in_event_mode, timer_in_mode, with_restarted, clock_in_mode, resource_in_mode}
use Rattle.step_model.specs.ResourceRows.{without_chan, without_timer, without_sync, without_lock, without}
use Rattle.step_laws.proofs.PinsAfter.{PinsAfter, pins_stay, restart}

-- where a core is left, its threads and their last issues are as they were, and so is what its ports drive
abbrev pub Keeps : CoreRec → Option CoreRec → Type 0
Keeps core None = Unit {0}
Keeps core (Some after) = (after.threads ≡ core.threads) × (after.slots.last ≡ core.slots.last) × PinsAfter core.ports after.ports []

module _ (core : CoreRec) where
  -- one core or another
  either : (holds : Bool) (x y : Option CoreRec) → Keeps core x → Keeps core y → Keeps core (if holds then x else y)
  either true x y one other = one
  either false x y one other = other

  -- ---- What is freed

  chan_freed_keeps : (c : ChanNumber) (left : Option ChanRec) → Keeps core (without_chan core c left)
  chan_freed_keeps c None = tt
  chan_freed_keeps c (Some chan) = (refl, refl, pins_stay)

  timer_freed_keeps : (n : ℕ) (left : Option TimerRec) → Keeps core (without_timer core n left)
  timer_freed_keeps n None = tt
  timer_freed_keeps n (Some timer) = (refl, refl, pins_stay)

  sync_freed_keeps : (n : ℕ) (left : Option SyncRec) → Keeps core (without_sync core n left)
  sync_freed_keeps n None = tt
  sync_freed_keeps n (Some sync) = (refl, refl, pins_stay)

  pub lock_keeps : (n : ℕ) (left : Option LockRec) → Keeps core (without_lock core n left)
  lock_keeps n None = tt
  lock_keeps n (Some lock) = (refl, refl, pins_stay)

  pub without_keeps : (here : Setting) (k : ThreadNumber) (r : Resource) → Keeps core (without here core k r)
  without_keeps here k (resource.Chan c) = chan_freed_keeps c (freed_chan (here.is_busy c) (chan_of core c))
  without_keeps here k (resource.Timer n) = timer_freed_keeps n (freed_timer (timer_of core n))
  without_keeps here k (resource.Sync n) = sync_freed_keeps n (freed_sync k (sync_of core n))
  without_keeps here k (resource.Lock n) = lock_keeps n (freed_lock (lock_of core n))
  without_keeps here k (resource.Thread j) = tt
  without_keeps here k (resource.Clock n) = tt
  without_keeps here k (resource.Port p) = tt

  -- ---- What is set

  pub timer_keeps : (n : ℕ) (becomes : Option TimerRec) → Keeps core (timer_becomes core n becomes)
  timer_keeps n None = tt
  timer_keeps n (Some timer) = (refl, refl, pins_stay)

  pub clock_keeps : (n : ℕ) (becomes : Option ClockRec) → Keeps core (clock_becomes core n becomes)
  clock_keeps n None = tt
  clock_keeps n (Some clock) = (refl, refl, pins_stay)

  res_keeps : (change : EnablingRec → EnablingRec) (r : Res) → Keeps core (with_changed core change (Some r))
  res_keeps change (res.Chan c) = (refl, refl, pins_stay)
  res_keeps change (res.Timer n) = (refl, refl, pins_stay)
  res_keeps change (res.Port p) = (refl, refl, pins_stay)

  pub changed_keeps : (change : EnablingRec → EnablingRec) (r : Option Res) → Keeps core (with_changed core change r)
  changed_keeps change None = tt
  changed_keeps change (Some r) = res_keeps change r

  pub event_mode_keeps : (mode : Word) (r : Option Res) → Keeps core (in_event_mode core mode r)
  event_mode_keeps mode r =
      either (mode == EVENT) _ _ (changed_keeps (in_mode false) r) (either (mode == INTERRUPT) _ None (changed_keeps (in_mode true) r) tt)

  timer_mode_keeps : (n : ℕ) (mode : Word) → Keeps core (timer_in_mode core n mode)
  timer_mode_keeps n mode =
      either (mode == NO_CONDITION) _ _ (timer_keeps n (with_after false (timer_of core n)))
      (either (mode == AFTER) _ _ (timer_keeps n (with_after true (timer_of core n)))
      (event_mode_keeps mode (eventful core (Some (resource.Timer n)))))

  restarted_keeps : (n : ℕ) (becomes : Option ClockRec) → Keeps core (option_map (with_restarted n) (clock_becomes core n becomes))
  restarted_keeps n None = tt
  restarted_keeps n (Some clock) = (refl, refl, restart n)

  clock_mode_keeps : (n : ℕ) (mode : Word) → Keeps core (clock_in_mode core n mode)
  clock_mode_keeps n mode =
      let clock = clock_of core n in
      either (mode == ON) _ _ (clock_keeps n (Some on_clock))
      (either (mode == OFF) _ _ (clock_keeps n (turned_off clock))
      (either (mode == START) _ _ (restarted_keeps n (started clock)) (either (mode == STOP) _ None (clock_keeps n (stopped clock)) tt)))

  pub mode_keeps : (mode : Word) (named : Option Resource) → Keeps core (resource_in_mode core mode named)
  mode_keeps mode (Some (resource.Chan c)) = event_mode_keeps mode (eventful core (Some (resource.Chan c)))
  mode_keeps mode (Some (resource.Timer n)) = timer_mode_keeps n mode
  mode_keeps mode (Some (resource.Clock n)) = clock_mode_keeps n mode
  mode_keeps mode _ = tt
