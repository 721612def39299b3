-- What a node has sent by its ends and not published yet.
use Rattle.std.specs.Prelude.{ℕ, ◌≡◌, ◌<◌, ◌≤◌, ◌-◌, nat_lt, if◌then◌else◌, List, [], ◌++◌, length, slice_index_or, slice_set}
use Rattle.xs_base.specs.Numbers.{Slot, Word, EndNumber, PortNumber}
use Rattle.xs_base.specs.Batch.{BatchRec}
use Rattle.xs_base.specs.declared.numbers.TheConstants.{LINK_ENDS, PORTS}
use Rattle.xs_model.specs.Record.{CoreRec, port_of}
use Rattle.xs_model.specs.Ports.{level_of}
use Rattle.serial_model.specs.Serial.{sent_by, level_entries}
use Rattle.node_seats.specs.declared.seat.Seat.{Seat}

abbrev pub no_batch : BatchRec
no_batch = record { entries = []; spare = 0 }

-- what was sent by a link end, where a link leaves by it
abbrev pub batch_at : List BatchRec → EndNumber → BatchRec
batch_at batches end = slice_index_or batches end no_batch

-- a wire that leaves the pin of a port: the level that it was told last, and what it was told and is not published
pub record WireOutRec : Type 0 where
  pub port : PortNumber
  pub sent : Word
  pub batch : BatchRec

abbrev pub no_wire_out : WireOutRec
no_wire_out = record { port = 0; sent = 0; batch = no_batch }

abbrev pub wire_out : List WireOutRec → ℕ → WireOutRec
wire_out wires k = slice_index_or wires k no_wire_out

-- what was sent by each link end, as far as the last by which a link leaves, and by the wires that leave, in the order of their ends
pub record OutletsRec : Type 0 where
  pub links : List BatchRec
  pub wires : List WireOutRec

-- what was sent by an end
abbrev pub batch_by : OutletsRec → EndNumber → BatchRec
batch_by outlets end = if nat_lt end LINK_ENDS then batch_at outlets.links end else (wire_out outlets.wires (end - LINK_ENDS)).batch

-- what was sent by an end is this
abbrev pub with_batch : EndNumber → BatchRec → OutletsRec → OutletsRec
with_batch end batch outlets =
    if nat_lt end LINK_ENDS
    then record outlets { links = slice_set outlets.links end batch }
    else record outlets { wires = slice_set outlets.wires (end - LINK_ENDS) (record (wire_out outlets.wires (end - LINK_ENDS)) { batch = batch }) }

-- wires leave ports that there are
abbrev pub AreWires : List WireOutRec → Type 0
AreWires wires = (k : ℕ) → k < length wires → (wire_out wires k).port < PORTS

-- ---- Room

-- room for what a slot can send: a token and a credit by a link end, and a level by a wire
pub record HasEntryRoom (outlets : OutletsRec) : Type 0 where
  pub links : (end : EndNumber) → end < length outlets.links → 2 ≤ (batch_at outlets.links end).spare
  pub wires : (k : ℕ) → k < length outlets.wires → 1 ≤ (wire_out outlets.wires k).batch.spare

-- nothing of a wire changed but the room
pub record SameWire (before after : WireOutRec) : Type 0 where
  pub port : after.port ≡ before.port
  pub sent : after.sent ≡ before.sent
  pub entries : after.batch.entries ≡ before.batch.entries

-- nothing changed but the room
pub record SameOutlets (before after : OutletsRec) : Type 0 where
  pub link_count : length after.links ≡ length before.links
  pub links : (end : EndNumber) → (batch_at after.links end).entries ≡ (batch_at before.links end).entries
  pub wire_count : length after.wires ≡ length before.wires
  pub wires : (k : ℕ) → SameWire (wire_out before.wires k) (wire_out after.wires k)

-- ---- One slot

-- the level that a port of a core drives, 0 where it drives none
abbrev pub driven_by : CoreRec → PortNumber → Word
driven_by core port = level_of (port_of core port).driven 0

-- a wire was told of a slot what its port drives after it, where the core is then this
pub record TellsWire (slot : Slot) (core : CoreRec) (before after : WireOutRec) : Type 0 where
  pub port : after.port ≡ before.port
  pub sent : after.sent ≡ driven_by core before.port
  pub entries : after.batch.entries ≡ before.batch.entries ++ level_entries slot before.sent (driven_by core before.port)

-- what a slot makes of what was sent, after which the node is this
pub record PutsOn (slot : Slot) (seat : Seat) (before after : OutletsRec) : Type 0 where
  pub link_count : length after.links ≡ length before.links
  pub links : (end : EndNumber) → end < length before.links →
      (batch_at after.links end).entries ≡ (batch_at before.links end).entries ++ sent_by slot seat.given end
  pub wire_count : length after.wires ≡ length before.wires
  pub wires : (k : ℕ) → k < length before.wires → TellsWire slot seat.core.core (wire_out before.wires k) (wire_out after.wires k)
