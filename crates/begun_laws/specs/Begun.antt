-- What systems become that begin before any slot.
use Rattle.std.specs.Prelude.{ℕ, ◌≡◌, ◌+◌}
use Rattle.xs_base.specs.Numbers.{Slot}
use Rattle.sys_plan.specs.Plan.{PlanRec}
use Rattle.serial_model.specs.Serial.{Begun, begun_at_start, since, serial}

-- one that begins as it starts is the serial machine
abbrev pub StartIsSerial : Type 0
StartIsSerial = (plan : PlanRec) (slot : Slot) → since plan (begun_at_start plan) slot ≡ serial plan slot

-- one that begins with what another has become so many slots later
abbrev pub begun_after : PlanRec → Begun → ℕ → Begun
begun_after plan begun count = record { slot = begun.slot + count; system = since plan begun count; shown = begun.shown }

-- each goes on from what it has become
abbrev pub SystemsGoOn : Type 0
SystemsGoOn = (plan : PlanRec) (begun : Begun) (count more : ℕ) → since plan (begun_after plan begun count) more ≡ since plan begun (count + more)
