-- Wires at work: their histories, and what of them has come.
use Rattle.std.specs.Prelude.{ℕ, ◌≡◌, ◌+◌, ◌<◌, ◌≤◌, ◌^◌, Option, Some, None, List, [], ◌++◌, length, map, slice_index_or}
use Rattle.std.specs.List.{AllByRecursion}
use Rattle.xs_base.specs.Ids.{port_width}
use Rattle.xs_base.specs.Numbers.{Slot, Word}
use Rattle.xs_base.specs.declared.numbers.TheConstants.{PORTS}
use Rattle.xs_base.specs.declared.entry.Entry.{Entry}
use Rattle.xs_base.specs.declared.entry.What.{What}
use Rattle.sys_plan.specs.Plan.{AreDistinct}
use Rattle.serial_model.specs.Serial.{level_on, level_or, level_entries}
use Rattle.crossings.specs.Crossings.{IsDueFrom}
use Rattle.snap_parts.specs.InFlight.{IsOfWire, IsEarlier, StandSo}
use Rattle.run_plan.specs.declared.wire.Wire.{Wire}

-- a wire as it is before a slot
pub record IsWire (slot : Slot) (wire : Wire) : Type 0 where
  pub from_port : wire.from_port < PORTS
  pub to_port : wire.to_port < PORTS
  pub widths : port_width wire.from_port ≡ port_width wire.to_port
  pub delayed : 1 ≤ wire.delay
  pub in_order : StandSo IsEarlier wire.history.entries
  pub levels : AllByRecursion (λ (e : Entry). IsOfWire (port_width wire.to_port) e.what) wire.history.entries
  pub before : AllByRecursion (λ (e : Entry). e.slot < slot) wire.history.entries
  pub few : wire.first ≤ slot
  -- so many entries have come by this slot, and the rest come later
  pub due : IsDueFrom (slot + 1) wire.delay wire.first wire.history.entries
  pub level : wire.level ≡ level_on wire.shown.value slot wire.delay wire.history.entries
  pub narrow : wire.level < 2 ^ port_width wire.to_port

-- a wire by which this comes, if something does
abbrev pub with_coming : Option What → Wire → Wire
with_coming None wire = wire
with_coming (Some told) wire = record wire { first = wire.first + 1; level = level_or told wire.level }

-- what a slot makes of a wire, after which its first port drives this level
pub record WireGoesOn (slot : Slot) (now : Word) (before after : Wire) : Type 0 where
  pub from : after.from ≡ before.from
  pub from_port : after.from_port ≡ before.from_port
  pub to : after.to ≡ before.to
  pub to_port : after.to_port ≡ before.to_port
  pub delay : after.delay ≡ before.delay
  pub entries : after.history.entries ≡ before.history.entries ++ level_entries slot before.sent now
  pub sent : after.sent ≡ now
  pub shown : after.shown.value ≡ before.shown.value
  pub next : IsWire (slot + 1) after

-- the pin at the second end of a wire: the node and the port
abbrev pub target : Wire → ℕ × ℕ
target wire = (wire.to, wire.to_port)

abbrev pub targets : List Wire → List (ℕ × ℕ)
targets wires = map target wires

-- what a wire shows is the level that came last to the pin at its second end, when these came to the pins of the nodes
abbrev pub HasCome : List (List Word) → Wire → Type 0
HasCome levels wire = slice_index_or (slice_index_or levels wire.to []) wire.to_port 0 ≡ wire.level

-- a wire as it is before a slot, among so many nodes
pub record IsReadyWire (slot : Slot) (node_count : ℕ) (wire : Wire) : Type 0 where
  pub from : wire.from < node_count
  pub to : wire.to < node_count
  pub here : IsWire slot wire

-- the wires as they are before a slot, when these levels came last to the pins of the nodes. No two of them end at one pin
pub record AreReadyWires (slot : Slot) (levels : List (List Word)) (wires : List Wire) : Type 0 where
  pub each : AllByRecursion (IsReadyWire slot (length levels)) wires
  pub apart : AreDistinct (targets wires)
  pub come : AllByRecursion (HasCome levels) wires
