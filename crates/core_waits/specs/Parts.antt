-- The parts of a core by which threads may issue, and what is known of them.
use Rattle.std.specs.Prelude.{ℕ, ◌≡◌, ◌<◌, ◌≤◌, ◌+◌, Bool, ◌&&◌, Option, List}
use Rattle.xs_base.specs.Numbers.{Slot}
use Rattle.xs_base.specs.declared.numbers.TheConstants.{THREADS}
use Rattle.xs_model.specs.declared.thread.Thread.{Thread}
use Rattle.xs_model.specs.Record.{CoreRec, SlotsRec, ChanRec, TimerRec, PortRec, EnabledRec}
use Rattle.xs_model.specs.Masks.{in_mask}
use Rattle.xs_model.specs.Status.{has_bits}
use Rattle.xs_model.specs.declared.status.TheConstants.{EEBLE, IEBLE}
use Rattle.xs_model.specs.Time.{timer_holds}
use Rattle.xs_model.specs.Waits.{division_is_over}
use Rattle.xs_model.specs.Picks.{is_paused, is_able}
use Rattle.timers_clocks.specs.Timers.{timer_at}
use Rattle.sync_locks.specs.Syncs.{SyncsRec}
use Rattle.core_waits.specs.declared.able.Able.{Able}

-- a core has these parts
pub record HasParts (core : CoreRec) (its_threads : List Thread) (its_slots : SlotsRec) (its_chans : List ChanRec) (its_timers : List TimerRec) (its_syncs : SyncsRec) (its_ports : List PortRec) (its_events : EnabledRec) : Type 0 where
  pub threads : core.threads ≡ its_threads
  pub slots : core.slots ≡ its_slots
  pub chans : core.chans ≡ its_chans
  pub timers : core.timers ≡ its_timers
  pub syncs : core.syncs ≡ its_syncs.syncs
  pub locks : core.locks ≡ its_syncs.locks
  pub events : core.enabled ≡ its_events
  pub ports : core.ports ≡ its_ports

-- the slots for which it is known: from the one in which it was found up to the last one, that one too
abbrev pub IsFor : Able → Slot → Type 0
IsFor able slot = (able.slot ≤ slot) × (slot ≤ able.until)

-- what threads wait for of the slot alone holds in a slot as in another one: the conditions of timers, and that the divider is
-- free, with its last division
pub record AreAlike (its_timers : List TimerRec) (division : Option Slot) (slot other : Slot) : Type 0 where
  pub timers : (n : ℕ) → timer_holds slot (timer_at its_timers n) ≡ timer_holds other (timer_at its_timers n)
  pub divider : division_is_over division slot ≡ division_is_over division other

-- a thread that is paused, and whose status lets events or interrupts through
abbrev pub may_choose : Thread → Bool
may_choose th = is_paused th.run && has_bits th.sr (EEBLE + IEBLE)

-- the mask has the threads that would issue if they were rested, in all slots for which it is known, the one in which it was
-- found among them
pub record AreAble (core : CoreRec) (able : Able) : Type 0 where
  pub at : (slot k : ℕ) → IsFor able slot → k < THREADS → in_mask able.threads k ≡ is_able core k slot
  pub now : able.slot ≤ able.until
