-- What a snapshot may say of a thread: it keeps threads as they are.
use Rattle.std.specs.Prelude.{ℕ, ◌≡◌, ◌<◌, true, ◌==◌, ◌||◌, List}
use Rattle.std.specs.List.{AllByRecursion}
use Rattle.xs_base.specs.declared.numbers.TheConstants.{CHAN_ENDS, TIMERS, SYNCHRONISERS, LOCKS, PORTS}
use Rattle.xs_model.specs.declared.thread.Thread.{Thread}
use Rattle.xs_model.specs.declared.thread.Run.{Run}
use Rattle.xs_model.specs.declared.thread.Run.TheVariants.{Paused}
use Rattle.xs_model.specs.declared.thread.Wait.{Wait}
use Rattle.xs_model.specs.declared.thread.Wait.TheVariants.{Room, Tokens, PortFull, PortEmpty, PortIdle, Timer, Lock, Slaves, Choice, Divider}
use Rattle.xs_model.specs.Status.{IsKnown}

-- as many tokens as one instruction puts or takes: a byte or a control token, or a word
abbrev pub AreOfOne : ℕ → Type 0
AreOfOne count = ((count == 1) || (count == 4)) ≡ true

-- what is waited at is there
abbrev pub IsWaitState : Wait → Type 0
IsWaitState (Room chan count) = (chan < CHAN_ENDS) × AreOfOne count
IsWaitState (Tokens chan count) = (chan < CHAN_ENDS) × AreOfOne count
IsWaitState (PortFull port) = port < PORTS
IsWaitState (PortEmpty port) = port < PORTS
IsWaitState (PortIdle port) = port < PORTS
IsWaitState (Timer timer) = timer < TIMERS
IsWaitState (Lock lock) = lock < LOCKS
IsWaitState (Slaves sync) = sync < SYNCHRONISERS
IsWaitState Choice = Unit {0}
IsWaitState Divider = Unit {0}

abbrev pub IsRunState : Run → Type 0
IsRunState (Paused wait) = IsWaitState wait
IsRunState _ = Unit {0}

-- its status registers have the seven bits only, and what it waits at is there
pub record IsThreadState (th : Thread) : Type 0 where
  pub sr : IsKnown th.sr
  pub ssr : IsKnown th.ssr
  pub run : IsRunState th.run

abbrev pub AreThreadStates : List Thread → Type 0
AreThreadStates threads = AllByRecursion IsThreadState threads
