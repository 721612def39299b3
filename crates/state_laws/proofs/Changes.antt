-- What an instruction makes of a core, as one change after another: each changes one thing of it.
use Rattle.std.proofs.Common.{◌≡◌, ◌⊎◌, ℕ, ◌<◌, ◌≤◌, Bool, true, false, Option, Some, None, List}
use Rattle.std.specs.Prelude.{IfSome}
use Rattle.xs_base.specs.Numbers.{Word, ThreadNumber, ChanNumber, PortNumber}
use Rattle.xs_base.specs.Ids.{port_width}
use Rattle.xs_base.specs.declared.numbers.TheConstants.{THREADS, PORTS}
use Rattle.xs_model.specs.declared.clock.Clock.{Clock}
use Rattle.xs_model.specs.declared.thread.Thread.{Thread}
use Rattle.xs_model.specs.declared.thread.Run.{Run}
use Rattle.xs_model.specs.Record.{CoreRec, ChanRec, TimerRec, ClockRec, LockRec, PortRec, EnabledRec, unused_sync, thread_of, chan_of, sync_of, lock_of, port_of, with_thread, with_last, with_chan, with_timer, with_clock, with_port, with_enabled, with_sync, with_lock}
use Rattle.xs_model.specs.Syncs.{is_thread, sync_with, got_sync, with_bound}
use Rattle.xs_model.specs.PortActions.{Acted, Did, Got, Waits, Refused, in_mode, set_clock, set_strobe, set_transfer_width, set_value, set_time, clear_time, tell_value, tell_stamp, peek, take_in, take_part, end_in, put_out, put_part, sync}
use Rattle.step_model.specs.Effect.{Setting}
use Rattle.step_model.specs.DividerRows.{with_division}
use Rattle.step_model.specs.ModeRows.{with_restarted}
use Rattle.step_model.specs.ThreadRows.{is_taken, thread_to_get, with_got_thread, slaves_go, slaves_are_freed, thread_is_freed}
use Rattle.chan_ends.specs.States.{IsChan}
use Rattle.single_port.specs.Asks.{IsClock}
use Rattle.single_port.specs.States.{IsStrobeState}
use Rattle.core_step.specs.ThreadStates.{IsRunState}
use Rattle.state_laws.specs.Facts.{AreByThreads}

-- ---- What may become of a part

-- a thread does what it did, or it is no free one and waits at nothing that is not there
abbrev pub RunStays : Run → Run → Type 0
RunStays old new = (new ≡ old) ⊎ (IsRunState new × (is_taken new ≡ true))

-- a channel end that is in use stays so where the switch is at work with it
pub record ChanStays (is_busy : Bool) (old new : ChanRec) : Type 0 where
  pub fits : IsChan old → IsChan new
  pub used : old.used ≡ true → (new.used ≡ true) ⊎ (is_busy ≡ false)

-- thread k enables for itself alone
abbrev pub EnabledStays : ThreadNumber → EnabledRec → EnabledRec → Type 0
EnabledStays k old new = k < THREADS → AreByThreads old → AreByThreads new

-- What a row does at port p. Of a part of a transfer it wants or puts at least one bit, where S holds.
pub data PortRow (S : Type 0) (p : PortNumber) (port : PortRec) : Acted → Type 0 where
  mode : (x : Word) → PortRow S p port (in_mode (port_width p) x port)
  clock : (clock : Clock) → IsClock clock → PortRow S p port (set_clock clock port)
  strobe : (strobe : Option PortNumber) → IfSome strobe (IsStrobeState p) → PortRow S p port (set_strobe strobe port)
  transfer_width : (x : Word) → PortRow S p port (set_transfer_width (port_width p) x port)
  value : (x : Word) → PortRow S p port (set_value (port_width p) x port)
  time : (x : Word) → PortRow S p port (set_time x port)
  no_time : PortRow S p port (clear_time port)
  told_value : PortRow S p port (tell_value port)
  told_stamp : PortRow S p port (tell_stamp port)
  peeked : (outside : Word) → PortRow S p port (peek outside port)
  taken : PortRow S p port (take_in p None port)
  part_taken : (bits : ℕ) → (S → 1 ≤ bits) → PortRow S p port (take_part p bits port)
  ended : PortRow S p port (end_in port)
  put : (word : Word) → PortRow S p port (put_out p word port)
  part_put : (bits : ℕ) (word : Word) → (S → 1 ≤ bits) → PortRow S p port (put_part p bits word port)
  synced : PortRow S p port (sync p port)
  refused : PortRow S p port Refused

-- the port that it leaves, where it is not refused
abbrev pub Leaves : Acted → PortRec → Type 0
Leaves (Did port change) after = after ≡ port
Leaves (Got port word) after = after ≡ port
Leaves (Waits port wait change) after = after ≡ port
Leaves Refused after = ⊥

-- ---- What may become of a core that thread k changes

pub data Change (S : Type 0) (here : Setting) (k : ThreadNumber) (core : CoreRec) : CoreRec → Type 0 where
  sets : (j : ThreadNumber) (th : Thread) → RunStays (thread_of core j).run th.run → Change S here k core (with_thread core j th)
  stores : (memory : List ℕ) → Change S here k core (record core { memory = memory })
  issues : Change S here k core (with_last core k here.slot)
  frees_itself : sync_with k core.syncs ≡ None → Change S here k core (thread_is_freed core k)
  lets_slaves_go : (n : ℕ) → Change S here k core (slaves_go core n)
  frees_slaves : (n : ℕ) → Change S here k core (slaves_are_freed core n)
  gets_thread : (j : ThreadNumber) → thread_to_get core ≡ Some j → Change S here k core (with_got_thread core j here.slot)
  gets_slave : (j : ThreadNumber) (n : ℕ) → thread_to_get core ≡ Some j → is_thread k (sync_of core n).master ≡ true → Change S here k core (with_sync (with_got_thread core j here.slot) n (with_bound j (sync_of core n)))
  gets_sync : (n : ℕ) → Change S here k core (with_sync core n (got_sync k))
  frees_sync : (n : ℕ) → Change S here k core (with_sync core n unused_sync)
  sets_lock : (n : ℕ) (lock : LockRec) → (lock.owner ≡ (lock_of core n).owner) ⊎ IfSome lock.owner (λ owner. owner ≡ k) → Change S here k core (with_lock core n lock)
  sets_timer : (n : ℕ) (timer : TimerRec) → Change S here k core (with_timer core n timer)
  sets_clock : (n : ℕ) (clock : ClockRec) → Change S here k core (with_clock core n clock)
  sets_chan : (c : ChanNumber) (chan : ChanRec) → ChanStays (here.is_busy c) (chan_of core c) chan → Change S here k core (with_chan core c chan)
  sets_port : (p : PortNumber) (acted : Acted) (port : PortRec) → p < PORTS → PortRow S p (port_of core p) acted → Leaves acted port → Change S here k core (with_port core p port)
  starts_clock : (n : ℕ) → Change S here k core (with_restarted n core)
  sets_enabled : (enabled : EnabledRec) → EnabledStays k core.enabled enabled → Change S here k core (with_enabled core enabled)
  divides : Change S here k core (with_division core here.slot)

-- one after another
pub data Changes (S : Type 0) (here : Setting) (k : ThreadNumber) (core : CoreRec) : CoreRec → Type 0 where
  no_change : Changes S here k core core
  and_then : (mid after : CoreRec) → Changes S here k core mid → Change S here k mid after → Changes S here k core after

module _ (S : Type 0) (here : Setting) (k : ThreadNumber) where
  pub both : (core mid after : CoreRec) → Changes S here k core mid → Changes S here k mid after → Changes S here k core after
  both core mid after one no_change = one
  both core mid after one (and_then between _ more last) = and_then between after (both core mid between one more) last

  -- what each change keeps, all of them keep
  pub all_keep : (IsSo : CoreRec → Type 0) → ((core after : CoreRec) → Change S here k core after → IsSo core → IsSo after)
      → (core after : CoreRec) → Changes S here k core after → IsSo core → IsSo after
  all_keep IsSo keeps core _ no_change h = h
  all_keep IsSo keeps core after (and_then mid _ before last) h = keeps mid after last (all_keep IsSo keeps core mid before h)
