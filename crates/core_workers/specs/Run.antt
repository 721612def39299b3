-- A worker's whole run, and what is left of a worker where its run is over.
use Rattle.std.specs.Prelude.{◌≡◌, ◌<◌, ◌≤◌, Some, All}
use Rattle.std.specs.List.{AllZip}
use Rattle.xs_base.specs.Numbers.{Slot, LinkNumber, Position}
use Rattle.link_logs.specs.declared.answers.Cause.{Cause}
use Rattle.link_logs.specs.declared.answers.Cause.TheVariants as cause
use Rattle.plan_cells.specs.declared.ends.Outgoing.{Outgoing}
use Rattle.plan_cells.specs.Ends.{CellsRec}
use Rattle.core_workers.specs.declared.ended.Ended.{Ended}
use Rattle.core_workers.specs.declared.ended.Ended.TheVariants.{Finished, Stopped, Memory}
use Rattle.core_workers.specs.Worker.{WorkerRec, IsOpen, IsLeast, StaysIncoming, shut_links}

-- an end is that of the same arc and cell, and has published no less
pub record KeepsOutgoing (before after : Outgoing) : Type 0 where
  pub end : after.end ≡ before.end
  pub link : after.link ≡ before.link
  pub table : after.w.table ≡ before.w.table
  pub run : after.w.end.run ≡ before.w.end.run
  pub number : after.w.end.number ≡ before.w.end.number
  pub published : before.w.end.published ≤ after.w.end.published

-- what turns and a stop leave as it was
pub record Keeps (before after : WorkerRec) : Type 0 where
  pub cells : after.cells ≡ before.cells
  pub plan : after.runner.plan ≡ before.runner.plan
  pub node : after.runner.node ≡ before.runner.node
  pub limit : after.runner.horizon.limit ≡ before.runner.horizon.limit
  pub clock : before.runner.clock ≤ after.runner.clock
  pub incoming : AllZip StaysIncoming before.ends.incoming.items after.ends.incoming.items
  pub outgoing : AllZip KeepsOutgoing before.ends.outgoing.items after.ends.outgoing.items

-- the log of an arc that leaves the node is published up to a slot
abbrev pub IsToldTo : Slot → Outgoing → Type 0
IsToldTo slot o = o.w.end.published ≡ slot

-- it is closed, for this cause
abbrev pub IsClosedFor : Cause → Outgoing → Type 0
IsClosedFor cause o = o.w.end.cause ≡ Some cause

-- all slots were run, and all that was sent is published, in logs that are open
pub record IsOver (w : WorkerRec) : Type 0 where
  pub clock : w.runner.clock ≡ w.runner.horizon.limit
  pub told : All (IsToldTo w.runner.horizon.limit) w.ends.outgoing.items
  pub still_open : All IsOpen w.ends.outgoing.items

-- the node is stopped before the limit by the log of an arc that was found closed, the least such arc, and the logs of all arcs
-- that leave it are closed for that
pub record IsStopped (w : WorkerRec) : Type 0 where
  pub link : LinkNumber
  pub below : w.runner.clock < w.runner.horizon.limit
  pub least : IsLeast link (shut_links w.ends.incoming.items)
  pub closed : All (IsClosedFor (cause.Neighbour link)) w.ends.outgoing.items

abbrev pub EndsWith : Ended → WorkerRec → Type 0
EndsWith Finished after = IsOver after
EndsWith Stopped after = IsStopped after
EndsWith Memory after = All (IsClosedFor cause.Memory) after.ends.outgoing.items

-- what is left of the node at a position, where it has run so many slots and published each arc that leaves it up to there, in these
-- cells
pub record IsLeftAt (cells : CellsRec) (slot : Slot) (n : Position) (w : WorkerRec) : Type 0 where
  pub cells_are : w.cells ≡ cells
  pub node : w.runner.node ≡ n
  pub clock : w.runner.clock ≡ slot
  pub told : All (IsToldTo slot) w.ends.outgoing.items
