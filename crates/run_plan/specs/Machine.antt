-- What contracts see of a serial machine.
use Rattle.std.specs.Prelude.{◌≡◌, ◌-◌, ◌≤◌}
use Rattle.xs_base.specs.Numbers.{Slot, Position}
use Rattle.sys_plan.specs.Plan.{PlanRec}
use Rattle.serial_model.specs.Serial.{SystemRec, Begun, begun_at_start, since, serial, node_by}

-- the plan, what the machine began with, and how many slots have passed since slot 0
pub record MachineRec : Type 0 where
  pub plan : PlanRec
  pub begun : Begun
  pub now : Slot

-- what the system has become
abbrev pub system_of : MachineRec → SystemRec
system_of m = since m.plan m.begun (m.now - m.begun.slot)

-- of a machine that began with a system as it starts, the serial machine
abbrev pub WholeRunIsSerial : Type 0
WholeRunIsSerial = (m : MachineRec) → m.begun ≡ begun_at_start m.plan → system_of m ≡ serial m.plan m.now

-- at the end of each slot that a machine went over each node's pins show the levels that they showed before
abbrev pub LevelsStay : MachineRec → MachineRec → Type 0
LevelsStay before after = (slot : Slot) (n : Position) → before.now ≤ slot → slot ≤ after.now
    → (node_by (system_of (record before { now = slot })).nodes n).levels ≡ (node_by (system_of before).nodes n).levels
