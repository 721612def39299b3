-- What comes to the pins of a node by wires and has not come yet.
use Rattle.std.specs.Prelude.{ℕ, ◌≡◌, ◌+◌, ◌<◌, ◌≤◌, Some, List, length, slice_get, slice_index_or}
use Rattle.std.specs.List.{AllByRecursion}
use Rattle.xs_base.specs.Numbers.{Slot, Word}
use Rattle.xs_base.specs.declared.numbers.TheConstants.{PORTS}
use Rattle.xs_base.specs.declared.entry.Entry.{Entry}
use Rattle.serial_model.specs.Serial.{level_after, arrived_by}
use Rattle.locality_laws.specs.Levels.{IsLevelOf}
use Rattle.crossings.specs.Crossings.{AreInSendingOrder}
use Rattle.node_seats.specs.declared.pins.Pins.{Pins}
use Rattle.node_seats.specs.declared.seat.Seat.{Seat}
use Rattle.node_seats.specs.Seats.{HasNoted}
use Rattle.node_seats.specs.Shown.{IsSteady}
use Rattle.node_runners.specs.declared.wire_inlets.WireInlet.{WireInlet}
use Rattle.node_runners.specs.Queue.{no_inlet, longer, after_slot, nearer_arrival}

abbrev pub no_wire_in : WireInlet
no_wire_in = record { port = 0; inlet = no_inlet }

abbrev pub wire_in : List WireInlet → ℕ → WireInlet
wire_in wires k = slice_index_or wires k no_wire_in

-- a wire of which this was seen after what waits of it
abbrev pub longer_wire : WireInlet → List Entry → WireInlet
longer_wire wire entries = record wire { inlet = longer wire.inlet entries }

-- a wire after a slot
abbrev pub wire_after : Slot → WireInlet → WireInlet
wire_after slot wire = record wire { inlet = after_slot slot wire.inlet }

-- what its pin shows in a slot, by what waits of it, where it showed this level before
abbrev pub level_by : Slot → WireInlet → Word → Word
level_by slot wire before = level_after before (arrived_by slot wire.inlet.delay wire.inlet.queue)

-- what waits of it are levels that fit its pin, in the order in which they were told
pub record AreLevels (wire : WireInlet) : Type 0 where
  pub port : wire.port < PORTS
  pub in_order : AreInSendingOrder wire.inlet.queue
  pub fit : AllByRecursion (λ (e : Entry). IsLevelOf wire.port e.what) wire.inlet.queue

abbrev pub HasLevels : List WireInlet → Type 0
HasLevels wires = (k : ℕ) → k < length wires → AreLevels (wire_in wires k)

-- no two of these wires come to one pin
abbrev pub ArePortsApart : List WireInlet → Type 0
ArePortsApart wires = (j k : ℕ) → j < length wires → k < length wires → (wire_in wires j).port ≡ (wire_in wires k).port → j ≡ k

-- the slot in which the first entry that waits of a wire comes, if that is before a bound
abbrev pub nearer_level : Slot → WireInlet → Slot
nearer_level bound wire = nearer_arrival bound wire.inlet

-- nothing of what waits of these wires comes before a slot
abbrev pub AwaitUntil : Slot → List WireInlet → Type 0
AwaitUntil next wires = (k : ℕ) (e : Entry) → slice_get (wire_in wires k).inlet.queue 0 ≡ Some e → next ≤ e.slot + (wire_in wires k).inlet.delay

-- levels may have come to these pins before a slot that was not looked at yet, and all else of them is the same
pub record TakesLevels (slot : Slot) (before after : Pins) : Type 0 where
  pub script : after.script ≡ before.script
  pub number : after.number ≡ before.number
  pub wired : after.wired ≡ before.wired
  pub steady : IsSteady slot after
  pub noted : (seat : Seat) → HasNoted slot before seat → HasNoted slot after seat
