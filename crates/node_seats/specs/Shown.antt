-- What the pins of a node show from outside: by a script, and by wires.
use Rattle.std.specs.Prelude.{ℕ, ◌≡◌, ◌<◌, ◌≤◌, Bool, ◌&&◌, ◌==◌, Option, Some, None, is_some, List, [], slice_index, slice_index_or}
use Rattle.xs_base.specs.Numbers.{Slot, Word, Position, PortNumber, LinkNumber}
use Rattle.xs_base.specs.declared.entry.Entry.{Entry}
use Rattle.xs_base.specs.declared.numbers.TheConstants.{PORTS}
use Rattle.xs_model.specs.declared.outside.PinView.{PinView}
use Rattle.xs_model.specs.Masks.{in_mask}
use Rattle.xs_model.specs.Outside.{LevelsFit}
use Rattle.pin_wires.specs.Wires.{levels_over}
use Rattle.pin_scripts.specs.Script.{view_at}
use Rattle.sys_plan.specs.declared.WirePlan.{WirePlan}
use Rattle.sys_plan.specs.Plan.{PlanRec, node_numbers, wire_to, delay_of}
use Rattle.serial_model.specs.Serial.{level_on, shown_of}
use Rattle.node_seats.specs.declared.pins.Pins.{Pins}

-- the slot of a change, 2 ^ 32 - 1, which is no slot of a run, where none comes
abbrev pub slot_or_never : Option Slot → Slot
slot_or_never None = 4294967295
slot_or_never (Some slot) = slot

-- what pins show in a slot: what came last by wires, where a wire comes to them, and else what the script says
abbrev pub shown_by : Pins → Slot → PinView
shown_by pins slot = record { level = levels_over pins.wired pins.levels (view_at pins.script pins.number slot).level }

-- the ports of a mask are those of the node of a plan, at a position, to whose pins wires come
abbrev pub AreWired : PlanRec → Position → ℕ → Type 0
AreWired plan n wired = (port : PortNumber) → port < PORTS → in_mask wired port ≡ is_some (wire_to plan n port)

-- whether a wire comes to the pin of a port of the node at a position
abbrev pub joins_pin : Position → PortNumber → WirePlan → Bool
joins_pin n port wire = (wire.b == n) && (wire.b_port == port)

-- these levels, by port number, are those that wires show at the pins of the node of a plan in a slot, when the arcs have these histories
-- and showed this before
abbrev pub HaveComeOn : List Word → PlanRec → List (List Entry) → Position → Slot → List Word → Type 0
HaveComeOn shown plan histories n slot levels = (port : PortNumber) (wire : LinkNumber) → port < PORTS → wire_to plan n port ≡ Some wire →
    slice_index_or levels port 0 ≡ level_on (shown_of shown wire) slot (delay_of plan wire) (slice_index_or histories wire [])

abbrev pub HaveCome : PlanRec → List (List Entry) → Position → Slot → List Word → Type 0
HaveCome plan histories n slot levels = HaveComeOn [] plan histories n slot levels

-- from a slot on, until the next change, the pins show what is kept, unless more comes by a wire. The next change may have come before this
-- slot
pub record IsSteady (slot : Slot) (pins : Pins) : Type 0 where
  pub until_change : (later : Slot) → slot ≤ later → later < pins.next → shown_by pins later ≡ pins.view
  pub levels : LevelsFit pins.view.level

-- before a slot, in front of which no change was missed
pub record IsShown (slot : Slot) (pins : Pins) : Type 0 where
  pub steady : IsSteady slot pins
  pub next : slot ≤ pins.next

-- these are the pins of the node of a plan at a position, before a slot. What they show in it is `pins_on` of the serial machine, where
-- `HaveComeOn` holds of what came by wires
pub record ArePins (plan : PlanRec) (n : Position) (slot : Slot) (pins : Pins) : Type 0 where
  pub script : pins.script ≡ plan.script
  pub number : pins.number ≡ slice_index (node_numbers plan) n
  pub wired : AreWired plan n pins.wired
  pub shown : IsShown slot pins
