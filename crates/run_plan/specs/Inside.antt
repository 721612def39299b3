-- What a serial machine keeps.
use Rattle.std.specs.Prelude.{◌≤◌, Option, Some, None}
use Rattle.sys_plan.specs.Plan.{PlanRec}
use Rattle.serial_model.specs.Serial.{Begun, begun_at_start}
use Rattle.snap_parts.specs.declared.system.SnapSystem.{SnapSystem}
use Rattle.snap_parts.specs.Parts.{body_of}
use Rattle.snap_parts.specs.Snaps.{begun_of}
use Rattle.run_plan.specs.Machine.{MachineRec, system_of}
use Rattle.run_plan.specs.Run.{AreReady}
use Rattle.run_plan.specs.declared.machine.SerialMachine.TheInside.{Inside}

-- a system by what is known of a snapshot, where it is one of a snapshot, and else as a plan starts it
abbrev pub begun_by : {Kept : Type 0} → PlanRec → Option Kept → (Kept → SnapSystem) → Begun
begun_by plan None seen = begun_at_start plan
begun_by plan (Some kept) seen = begun_of (body_of (seen kept))

-- what the machine began with
abbrev pub begun_with : Inside → Begun
begun_with m = begun_by m.plan.value m.from (λ kept. kept.value)

abbrev pub seen_of : Inside → MachineRec
seen_of m = record { plan = m.plan.value; begun = begun_with m; now = m.clock }

pub record IsMachine (m : Inside) : Type 0 where
  pub on : (begun_with m).slot ≤ m.clock
  pub ready : AreReady m.plan.value (begun_with m).shown m.clock (system_of (seen_of m)) m.stations.items m.tracks.items m.wires.items
