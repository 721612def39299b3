-- Ports: what the edges of their clocks do.
use Rattle.std.specs.Prelude.{ℕ, ◌+◌, ◌%◌, ◌^◌, Bool, true, false, not, ◌==◌, nat_le, nat_lt, if◌then◌else◌, Option, Some, None, is_some, List, [], ◌∷◌, ◌++◌, length, take, drop, slice_index_or}
use Rattle.xs_base.specs.Numbers.{Slot, Word, PortNumber}
use Rattle.xs_base.specs.Ids.{port_width}
use Rattle.xs_model.specs.declared.clock.Edge.{Edge}
use Rattle.xs_model.specs.declared.clock.Edge.TheVariants as edge
use Rattle.xs_model.specs.declared.event.Happen.{Happen}
use Rattle.xs_model.specs.declared.event.Happen.TheVariants as happen
use Rattle.xs_model.specs.declared.pins.PinChange.{PinChange}
use Rattle.xs_model.specs.declared.pins.PinChange.TheVariants.{Drive, Float}
use Rattle.xs_model.specs.Record.{PortRec, TransferRec, ClockRec, Condition, Always, Equal, NotEqual}
use Rattle.xs_model.specs.Bits.{bits_of, value_of, last_bits}
use Rattle.xs_model.specs.Time.{edge_at}

-- ---- Pins

-- what a pin shows: what its port drives, else what it shows from outside
abbrev pub level_of : Option Word → Word → Word
level_of None outside = outside
level_of (Some driven) outside = driven

-- what the pins of all ports show, which show this from outside
abbrev pub levels_of : List PortRec → List Word → List Word
levels_of (port ∷ ports) (outside ∷ rest) = level_of port.driven outside ∷ levels_of ports rest
levels_of _ _ = []

-- whether a port's strobe is high: the pin of another port, where these are the levels of all pins
abbrev pub is_high : List Word → Option PortNumber → Bool
is_high levels None = false
is_high levels (Some strobe) = slice_index_or levels strobe 0 == 1

-- the change of a port's pins as what happens
abbrev pub pin_happens : PortNumber → Option PinChange → List Happen
pin_happens port None = []
pin_happens port (Some (Drive value)) = happen.Drive port value ∷ []
pin_happens port (Some Float) = happen.Float port ∷ []

-- ---- A port after an edge, and how its pins changed

pub record Edged : Type 0 where
  pub port : PortRec
  pub change : Option PinChange

abbrev pub unchanged : PortRec → Edged
unchanged port = record { port = port; change = None }

-- the transfer register holds a value of so many bits that came in
abbrev pub came_in : Word → ℕ → TransferRec
came_in value bits = record { value = value; bits = bits; time = None }

-- ---- The falling edge: the counter rises, and in direction output a beat goes out.

abbrev pub counter_after : ℕ → ℕ
counter_after counter = (counter + 1) % 2 ^ 16

abbrev pub shows : Word → Option Word → Bool
shows value None = false
shows value (Some driven) = driven == value

-- the port drives a value, which is told where it is new or differs
abbrev pub drives : Word → PortRec → Edged
drives value port = record {
  port = record port { driven = Some value };
  change = if shows value port.driven then None else Some (Drive value);
}

-- as many bits as the port is wide leave the shift register and are driven
abbrev pub beat_out : ℕ → PortRec → Edged
beat_out width port = drives (value_of (take width port.shift)) (record port { shift = drop width port.shift })

-- whether the counter is the time, if there is one
abbrev pub is_due : ℕ → Option ℕ → Bool
is_due counter None = true
is_due counter (Some time) = counter == time

-- the next transfer begins where one waits and its time has come: the stamp is the counter, and the first beat goes out at once
abbrev pub next_out : ℕ → PortRec → Option TransferRec → Edged
next_out width port None = unchanged port
next_out width port (Some t) =
    if is_due port.counter t.time
    then beat_out width (record port { shift = bits_of t.bits t.value; transfer = None; stamp = port.counter })
    else unchanged port

abbrev pub outputs : ℕ → PortRec → Edged
outputs width port = if nat_lt 0 (length port.shift) then beat_out width port else next_out width port port.transfer

abbrev pub falls : ℕ → PortRec → Edged
falls width port =
    let counted = record port { counter = counter_after port.counter } in
    if counted.output then outputs width counted else unchanged counted

-- ---- The rising edge: in direction input the pins are sampled. `level` is what they show.

-- whether a port's condition holds of a level
abbrev pub is_met : Condition → Word → Word → Bool
is_met Always value level = true
is_met Equal value level = level == value
is_met NotEqual value level = not (level == value)

abbrev pub is_condition : Condition → Bool
is_condition Always = false
is_condition Equal = true
is_condition NotEqual = true

abbrev pub emptied : PortRec → PortRec
emptied port = record port { transfer = None }

-- Without buffers. The transfer register takes a level, in place of what it held.
abbrev pub takes_level : ℕ → Word → PortRec → PortRec
takes_level width level port = record port { transfer = Some (came_in level width); sample_stamp = port.counter }

-- it takes one that the condition holds of, and is empty after another
abbrev pub takes_if_met : ℕ → Word → PortRec → PortRec
takes_if_met width level port =
    if is_met port.condition port.value level then takes_level width level port else emptied port

-- the time has come, and is over then: without a condition the level that it takes is held
abbrev pub takes_in_time : ℕ → Word → PortRec → PortRec
takes_in_time width level port =
    if is_condition port.condition then takes_if_met width level (record port { time = None })
    else record (takes_level width level port) { time = None; held = true }

-- by the time, if there is one: until it comes the register is empty
abbrev pub takes_by_time : ℕ → Word → PortRec → Option ℕ → PortRec
takes_by_time width level port None = takes_if_met width level port
takes_by_time width level port (Some time) =
    if port.counter == time then takes_in_time width level port else emptied port

-- a level that is held stays until it is taken
abbrev pub samples : ℕ → Word → PortRec → PortRec
samples width level port = if port.held then port else takes_by_time width level port port.time

-- With buffers. Levels are shifted in until a transfer is complete: when its time comes, or without one when as many bits are
-- there as are wanted.
abbrev pub is_complete : PortRec → Option ℕ → Bool
is_complete port None = nat_le port.wanted (length port.shift)
is_complete port (Some time) = port.counter == time

-- a full transfer register keeps what it has
abbrev pub keeps_or_takes : PortRec → PortRec
keeps_or_takes port =
    if is_some port.transfer then port
    else record port { transfer = Some (came_in (value_of port.shift) (length port.shift)); sample_stamp = port.counter }

-- the transfer register takes the bits of a complete transfer, if it is empty; the time, if there was one, is over
abbrev pub completes : PortRec → PortRec
completes port =
    if is_complete port port.time then record (keeps_or_takes port) { shift = []; time = None } else port

-- the last bits that came in, as many as a transfer has
abbrev pub shifts_in : ℕ → Word → PortRec → PortRec
shifts_in width level port = record port { shift = last_bits port.transfer_width (port.shift ++ bits_of width level) }

-- a condition that holds is over, and the transfer begins with this level
abbrev pub begins : PortRec → PortRec
begins port = if is_condition port.condition then record port { condition = Always; shift = [] } else port

-- before a condition holds nothing is shifted in
abbrev pub samples_buffered : ℕ → Word → PortRec → PortRec
samples_buffered width level port =
    if is_met port.condition port.value level then completes (shifts_in width level (begins port)) else port

abbrev pub sampled : ℕ → Word → PortRec → PortRec
sampled width level port = if port.buffered then samples_buffered width level port else samples width level port

-- a strobe lets only those edges sample at which it is high
abbrev pub lets_sample : Option PortNumber → Bool → Bool
lets_sample None high = true
lets_sample (Some strobe) high = high

abbrev pub rises : ℕ → Word → Bool → PortRec → PortRec
rises width level high port =
    if port.output then port else (if lets_sample port.strobe high then sampled width level port else port)

-- ---- The edge of a port's clock

-- at a port of this width whose pins show this level, and whose strobe, if it has one, is high or low
abbrev pub at_edge : ℕ → Edge → Word → Bool → PortRec → Edged
at_edge width edge.None level high port = unchanged port
at_edge width edge.Rise level high port = unchanged (rises width level high port)
at_edge width edge.Fall level high port = falls width port

-- a port that is off has no edges
abbrev pub port_edge : ℕ → Edge → Word → Bool → PortRec → Edged
port_edge width edge level high port = if port.on then at_edge width edge level high port else unchanged port

-- ---- The edges of a slot

-- all ports after the edges of a slot, and what happened
pub record PortsEdged : Type 0 where
  pub ports : List PortRec
  pub happened : List Happen

abbrev pub edged_before : PortNumber → Edged → PortsEdged → PortsEdged
edged_before p edged rest = record {
  ports = edged.port ∷ rest.ports;
  happened = pin_happens p edged.change ++ rest.happened;
}

-- the edge of one port, whose pins show this from outside; strobes are as at the end of the slot before, when the levels of all
-- pins were these
abbrev pub edge_in_slot : Slot → List ClockRec → List Word → PortNumber → PortRec → Word → Edged
edge_in_slot slot clocks before p port outside =
    port_edge (port_width p) (edge_at clocks port.clock slot) (level_of port.driven outside) (is_high before port.strobe) port

-- the edges of the ports from number p on
unfoldable pub edges_from : Slot → List ClockRec → List Word → PortNumber → List PortRec → List Word → PortsEdged
edges_from slot clocks before p (port ∷ ports) (outside ∷ rest) =
    edged_before p (edge_in_slot slot clocks before p port outside) (edges_from slot clocks before (p + 1) ports rest)
edges_from slot clocks before p ports _ = record { ports = ports; happened = [] }
