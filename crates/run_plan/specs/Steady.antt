-- Slots in which no pin changes its level.
use Rattle.std.specs.Prelude.{◌≡◌, ◌-◌, ◌≤◌}
use Rattle.xs_base.specs.Numbers.{Slot, Position}
use Rattle.sys_plan.specs.Plan.{PlanRec}
use Rattle.serial_model.specs.Serial.{Begun, since, node_by}
use Rattle.run_plan.specs.declared.station.Station.{Station}

-- up to a slot a node's pins show from outside what they show now, unless more comes by a wire
abbrev pub IsSteadyTo : Slot → Station → Type 0
IsSteadyTo slot station = slot ≤ station.pins.next

-- up to a slot each node's pins show the levels that they show in the system as it begins
abbrev pub LevelsStayTo : Slot → PlanRec → Begun → Type 0
LevelsStayTo to plan begun = (slot : Slot) (n : Position) → begun.slot ≤ slot → slot ≤ to
    → (node_by (since plan begun (slot - begun.slot)).nodes n).levels ≡ (node_by begun.system.nodes n).levels
