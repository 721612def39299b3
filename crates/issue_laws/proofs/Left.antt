-- Where a row changes another thing of a core than its threads, the memory stays as it was.
use Rattle.std.proofs.Common.{◌≡◌, ℕ, Bool, true, false, ◌==◌, if◌then◌else◌, Option, Some, None, option_map, refl}
use Rattle.xs_base.specs.Numbers.{Word, ThreadNumber, ChanNumber}
use Rattle.xs_model.specs.declared.modes.TheConstants.{OFF, ON, NO_CONDITION, AFTER, EVENT, INTERRUPT, STOP, START}
use Rattle.xs_model.specs.declared.resource.Res.{Res}
use Rattle.xs_model.specs.declared.resource.Resource.{Resource}
use Rattle.xs_model.specs.declared.resource.Resource.TheVariants as resource
use Rattle.xs_model.specs.Record.{CoreRec, ChanRec, TimerRec, ClockRec, SyncRec, LockRec, EnablingRec, chan_of, timer_of, clock_of, sync_of, lock_of}
use Rattle.xs_model.specs.Syncs.{freed_sync, freed_lock}
use Rattle.xs_model.specs.Time.{freed_timer, with_after, on_clock, turned_off, started, stopped}
use Rattle.xs_model.specs.Enabling.{in_mode}
use Rattle.net_model.specs.Chans.{freed_chan}
use Rattle.step_model.specs.Effect.{Setting}
use Rattle.step_model.specs.TimeRows.{timer_becomes, clock_becomes}
use Rattle.step_model.specs.EventRows.{eventful, with_changed}
use Rattle.step_model.specs.ModeRows.{in_event_mode, timer_in_mode, with_restarted, clock_in_mode, resource_in_mode}
use Rattle.step_model.specs.ResourceRows.{without_chan, without_timer, without_sync, without_lock, without}

-- where a core is left
abbrev pub Left : CoreRec → Option CoreRec → Type 0
Left core None = Unit {0}
Left core (Some after) = after.memory ≡ core.memory

module _ (core : CoreRec) where
  -- one core or another
  either : (holds : Bool) (x y : Option CoreRec) → Left core x → Left core y → Left core (if holds then x else y)
  either true x y one other = one
  either false x y one other = other

  -- ---- What is freed

  -- a channel end
  chan_freed : (c : ChanNumber) (left : Option ChanRec) → Left core (without_chan core c left)
  chan_freed c None = tt
  chan_freed c (Some chan) = refl

  -- a timer
  timer_freed : (n : ℕ) (left : Option TimerRec) → Left core (without_timer core n left)
  timer_freed n None = tt
  timer_freed n (Some timer) = refl

  -- a synchroniser
  sync_freed : (n : ℕ) (left : Option SyncRec) → Left core (without_sync core n left)
  sync_freed n None = tt
  sync_freed n (Some sync) = refl

  -- a lock
  pub lock_left : (n : ℕ) (left : Option LockRec) → Left core (without_lock core n left)
  lock_left n None = tt
  lock_left n (Some lock) = refl

  -- any of them
  pub without_left : (here : Setting) (k : ThreadNumber) (r : Resource) → Left core (without here core k r)
  without_left here k (resource.Chan c) = chan_freed c (freed_chan (here.is_busy c) (chan_of core c))
  without_left here k (resource.Timer n) = timer_freed n (freed_timer (timer_of core n))
  without_left here k (resource.Sync n) = sync_freed n (freed_sync k (sync_of core n))
  without_left here k (resource.Lock n) = lock_left n (freed_lock (lock_of core n))
  without_left here k _ = tt

  -- ---- What is set

  -- a timer
  pub timer_left : (n : ℕ) (becomes : Option TimerRec) → Left core (timer_becomes core n becomes)
  timer_left n None = tt
  timer_left n (Some timer) = refl

  -- a clock block
  pub clock_left : (n : ℕ) (becomes : Option ClockRec) → Left core (clock_becomes core n becomes)
  clock_left n None = tt
  clock_left n (Some clock) = refl

  -- what a resource gives
  pub changed_left : (change : EnablingRec → EnablingRec) (r : Option Res) → Left core (with_changed core change r)
  changed_left change None = tt
  changed_left change (Some r) = refl

  -- a resource gives events or interrupts
  pub event_mode_left : (mode : Word) (r : Option Res) → Left core (in_event_mode core mode r)
  event_mode_left mode r =
      either (mode == EVENT) _ _ (changed_left (in_mode false) r) (either (mode == INTERRUPT) _ None (changed_left (in_mode true) r) tt)

  -- a timer in a mode
  timer_mode_left : (n : ℕ) (mode : Word) → Left core (timer_in_mode core n mode)
  timer_mode_left n mode =
      either (mode == NO_CONDITION) _ _ (timer_left n (with_after false (timer_of core n)))
      (either (mode == AFTER) _ _ (timer_left n (with_after true (timer_of core n))) (event_mode_left mode (eventful core (Some (resource.Timer n)))))

  -- ports restart their counters with a clock block
  restarted_left : (n : ℕ) (becomes : Option ClockRec) → Left core (option_map (with_restarted n) (clock_becomes core n becomes))
  restarted_left n None = tt
  restarted_left n (Some clock) = refl

  -- a clock block in a mode
  clock_mode_left : (n : ℕ) (mode : Word) → Left core (clock_in_mode core n mode)
  clock_mode_left n mode =
      let clock = clock_of core n in
      either (mode == ON) _ _ (clock_left n (Some on_clock))
      (either (mode == OFF) _ _ (clock_left n (turned_off clock))
      (either (mode == START) _ _ (restarted_left n (started clock)) (either (mode == STOP) _ None (clock_left n (stopped clock)) tt)))

  -- anything but a port in a mode
  pub mode_left : (mode : Word) (named : Option Resource) → Left core (resource_in_mode core mode named)
  mode_left mode (Some (resource.Chan c)) = event_mode_left mode (eventful core (Some (resource.Chan c)))
  mode_left mode (Some (resource.Timer n)) = timer_mode_left n mode
  mode_left mode (Some (resource.Clock n)) = clock_mode_left n mode
  mode_left mode _ = tt
