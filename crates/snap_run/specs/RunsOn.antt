-- Runs that went on from a snapshot.
use Rattle.std.specs.Prelude.{◌≡◌, ◌≤◌, ◌<◌, ◌^◌}
use Rattle.xs_base.specs.Numbers.{Slot}
use Rattle.sys_plan.specs.Plan.{PlanRec}
use Rattle.trace_model.specs.Trace.{EndRec}
use Rattle.run_plan.specs.Machine.{MachineRec}
use Rattle.snap_parts.specs.Parts.{BodyRec}
use Rattle.snap_parts.specs.Snaps.{IsSnapSystem, begun_of}
use Rattle.snap_codec.specs.Snaps.{SnapRec, IsSnap}
use Rattle.snap_model.specs.Rest.{end_after, serial_from}

-- the plan, what the run began with, and after how many slots it ended
pub record RunOnRec : Type 0 where
  pub plan : PlanRec
  pub body : BodyRec
  pub slots : Slot

-- what is told of it there
abbrev pub end_of_run : RunOnRec → EndRec
end_of_run run = end_after run.body (serial_from run.plan run.body run.slots)

-- a machine went on from a snapshot of its plan
pub record WentOn (machine : MachineRec) (snap : SnapRec) : Type 0 where
  pub is : IsSnap machine.plan snap
  pub system : IsSnapSystem machine.plan snap.body
  pub begun : machine.begun ≡ begun_of snap.body
  pub on : snap.body.slot ≤ machine.now
  -- the number of a slot has 32 bits
  pub few : machine.now < 2 ^ 32
