-- A worker's run as the turns that it takes, one after the other.
use Rattle.std.specs.Prelude.{ℕ, zero, suc, ◌≡◌, ◌≢◌, All}
use Rattle.std.specs.List.{AllZip}
use Rattle.xs_base.specs.Numbers.{LinkNumber}
use Rattle.link_logs.specs.declared.answers.Cause.{Cause}
use Rattle.link_logs.specs.declared.answers.Cause.TheVariants as cause
use Rattle.core_workers.specs.declared.ended.Ended.{Ended}
use Rattle.core_workers.specs.declared.ended.Ended.TheVariants as ended
use Rattle.core_workers.specs.declared.turn.Turn.{Turn}
use Rattle.core_workers.specs.declared.turn.Turn.TheVariants.{Ran, Blocked, Busy, Finished, Stopped, Memory}
use Rattle.core_workers.specs.Worker.{WorkerRec, IsWorker, IsOpen, Stays, Exchanged, Answers, Closes, KeepsAllElse}

-- a turn of a worker, with this answer; what it leaves is a worker
pub record Takes (before : WorkerRec) (turn : Turn) (after : WorkerRec) : Type 0 where
  pub still_open : All IsOpen before.ends.outgoing.items
  pub stays : Stays before after
  pub exchanged : turn ≢ Memory → Exchanged before after
  pub answer : Answers before turn after
  pub keeps : IsWorker after

-- after these answers a run goes on
abbrev pub IsOneOfMore : Turn → Type 0
IsOneOfMore (Ran from to) = Unit {0}
IsOneOfMore (Blocked end seen) = Unit {0}
IsOneOfMore (Busy end) = Unit {0}
IsOneOfMore Finished = ⊥
IsOneOfMore (Stopped link) = ⊥
IsOneOfMore Memory = ⊥

-- a turn after which the run goes on
pub record GoesOn (before after : WorkerRec) : Type 0 where
  pub turn : Turn
  pub one_of_more : IsOneOfMore turn
  pub takes : Takes before turn after

-- so many such turns, one after the other
unfoldable pub GoesOnFor : ℕ → WorkerRec → WorkerRec → Type 0
GoesOnFor zero before after = after ≡ before
GoesOnFor (suc turns) before after = (last : WorkerRec) × GoesOnFor turns before last × GoesOn last after

-- turns of which the last has this answer, and the run goes on after each of the others
pub record TakesTurns (before : WorkerRec) (turn : Turn) (after : WorkerRec) : Type 0 where
  pub turns : ℕ
  pub last : WorkerRec
  pub earlier : GoesOnFor turns before last
  pub takes : Takes last turn after

-- the logs of the arcs that leave the node are closed for a cause, and nothing else changes
pub record Shuts (for : Cause) (before after : WorkerRec) : Type 0 where
  pub closed : AllZip (Closes for) before.ends.outgoing.items after.ends.outgoing.items
  pub rest : KeepsAllElse before after

-- turns of which the last has this answer, and then the logs are closed for a cause
pub record TakesAndShuts (before : WorkerRec) (turn : Turn) (for : Cause) (after : WorkerRec) : Type 0 where
  pub turned : WorkerRec
  pub takes : TakesTurns before turn turned
  pub shuts : Shuts for turned after

-- what a run is, by what came of it: its last turn answers so
abbrev pub RunsBy : WorkerRec → Ended → WorkerRec → Type 0
RunsBy before ended.Finished after = TakesTurns before Finished after
RunsBy before ended.Stopped after = (link : LinkNumber) × TakesAndShuts before (Stopped link) (cause.Neighbour link) after
RunsBy before ended.Memory after = TakesAndShuts before Memory cause.Memory after
