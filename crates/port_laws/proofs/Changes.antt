-- What a port that is on has to have where some of its parts change.
use Rattle.std.proofs.Common.{ℕ, ◌≡◌, ◌^◌, ◌<◌, Bool, true, Option, Some, None, List, refl, arith}
use Rattle.std.specs.Prelude.{IfSome}
use Rattle.std.proofs.lemmas.Bool.{both_ways}
use Rattle.xs_base.specs.Numbers.{Word, PortNumber}
use Rattle.xs_model.specs.declared.clock.Clock.{Clock}
use Rattle.xs_model.specs.Record.{PortRec, TransferRec, Condition}
use Rattle.xs_model.specs.PortActions.{cleared, turned_in, turned_out, taken}
use Rattle.port_laws.specs.Facts.{AreBeats, IsShift, IsTransfer, Is16Bits, IsOn}
use Rattle.port_laws.proofs.Bits.{no_shift}

-- a whole transfer is some beats
pub all_beats : (w : ℕ) (port : PortRec) → IsOn w port → AreBeats w port.transfer_width port.transfer_width
all_beats w port is = record { whole = is.transfer_width.whole; least = is.transfer_width.least; most = omega arith }

-- what is in its registers, and the time, and the stamp of what came in
pub with_registers : (w : ℕ) (port : PortRec) (condition : Condition) (held : Bool) (shift : List ℕ) (transfer : Option TransferRec) (time : Option ℕ) (stamp : ℕ) → IsOn w port → IsShift w port.transfer_width shift → IfSome transfer (IsTransfer w port.transfer_width) → IfSome time Is16Bits → Is16Bits stamp → IsOn w (record port { condition = condition; held = held; shift = shift; transfer = transfer; time = time; sample_stamp = stamp })
with_registers w port condition held shift transfer time stamp is shifts fits when stamps = record {
  on = is.on;
  transfer_width = is.transfer_width;
  wanted = is.wanted;
  shift = shifts;
  transfer = fits;
  value = is.value;
  driven = is.driven;
  input = is.input;
  counter = is.counter;
  time = when;
  sample_stamp = stamps;
  stamp = is.stamp;
}

-- a transfer begins to go out
pub with_begun : (w : ℕ) (port : PortRec) (shift : List ℕ) → IsOn w port → IsShift w port.transfer_width shift → IsOn w (record port { shift = shift; transfer = None; stamp = port.counter })
with_begun w port shift is shifts = record {
  on = is.on;
  transfer_width = is.transfer_width;
  wanted = is.wanted;
  shift = shifts;
  transfer = tt;
  value = is.value;
  driven = is.driven;
  input = is.input;
  counter = is.counter;
  time = is.time;
  sample_stamp = is.sample_stamp;
  stamp = is.counter;
}

-- a beat goes out
pub with_beat : (w : ℕ) (port : PortRec) (shift : List ℕ) (driven : Word) → port.output ≡ true → IsOn w port → IsShift w port.transfer_width shift → driven < 2 ^ w → IsOn w (record port { shift = shift; driven = Some driven })
with_beat w port shift driven out is shifts fits = record {
  on = is.on;
  transfer_width = is.transfer_width;
  wanted = is.wanted;
  shift = shifts;
  transfer = is.transfer;
  value = is.value;
  driven = fits;
  input = λ e. absurd (both_ways port.output e out);
  counter = is.counter;
  time = is.time;
  sample_stamp = is.sample_stamp;
  stamp = is.stamp;
}

-- its clock and its counter
pub with_counter : (w : ℕ) (port : PortRec) (clock : Clock) (counter : ℕ) → IsOn w port → Is16Bits counter → IsOn w (record port { clock = clock; counter = counter })
with_counter w port clock counter is counts = record {
  on = is.on;
  transfer_width = is.transfer_width;
  wanted = is.wanted;
  shift = is.shift;
  transfer = is.transfer;
  value = is.value;
  driven = is.driven;
  input = is.input;
  counter = counts;
  time = is.time;
  sample_stamp = is.sample_stamp;
  stamp = is.stamp;
}

-- its strobe, and the value of its condition
pub with_value : (w : ℕ) (port : PortRec) (strobe : Option PortNumber) (value : Word) → IsOn w port → value < 2 ^ w → IsOn w (record port { strobe = strobe; value = value })
with_value w port strobe value is fits = record {
  on = is.on;
  transfer_width = is.transfer_width;
  wanted = is.wanted;
  shift = is.shift;
  transfer = is.transfer;
  value = fits;
  driven = is.driven;
  input = is.input;
  counter = is.counter;
  time = is.time;
  sample_stamp = is.sample_stamp;
  stamp = is.stamp;
}

-- its transfers, where its registers are emptied
pub with_width : (w : ℕ) (port : PortRec) (is_buffered : Bool) (width wanted : ℕ) → IsOn w port → AreBeats w 32 width → AreBeats w width wanted → IsOn w (cleared (record port { buffered = is_buffered; transfer_width = width; wanted = wanted }))
with_width w port is_buffered width wanted is widths wants = record {
  on = is.on;
  transfer_width = widths;
  wanted = wants;
  shift = no_shift w width;
  transfer = tt;
  value = is.value;
  driven = is.driven;
  input = is.input;
  counter = is.counter;
  time = tt;
  sample_stamp = is.sample_stamp;
  stamp = is.stamp;
}

-- the bits that are wanted
pub with_wanted : (w : ℕ) (port : PortRec) (bits : ℕ) → IsOn w port → AreBeats w port.transfer_width bits → IsOn w (record port { wanted = bits })
with_wanted w port bits is wants = record {
  on = is.on;
  transfer_width = is.transfer_width;
  wanted = wants;
  shift = is.shift;
  transfer = is.transfer;
  value = is.value;
  driven = is.driven;
  input = is.input;
  counter = is.counter;
  time = is.time;
  sample_stamp = is.sample_stamp;
  stamp = is.stamp;
}

-- it turns to input
pub turned_in_on : (w : ℕ) (port : PortRec) → IsOn w port → IsOn w (turned_in port)
turned_in_on w port is = record {
  on = is.on;
  transfer_width = is.transfer_width;
  wanted = is.wanted;
  shift = no_shift w port.transfer_width;
  transfer = tt;
  value = is.value;
  driven = tt;
  input = λ e. refl;
  counter = is.counter;
  time = tt;
  sample_stamp = is.sample_stamp;
  stamp = is.stamp;
}

-- it turns to output
pub turned_out_on : (w : ℕ) (port : PortRec) → IsOn w port → IsOn w (turned_out port)
turned_out_on w port is = record {
  on = is.on;
  transfer_width = is.transfer_width;
  wanted = is.wanted;
  shift = no_shift w port.transfer_width;
  transfer = tt;
  value = is.value;
  driven = is.driven;
  input = λ e. absurd (both_ways true e refl);
  counter = is.counter;
  time = is.time;
  sample_stamp = is.sample_stamp;
  stamp = is.stamp;
}

-- what came in is taken
pub taken_on : (w : ℕ) (port : PortRec) → IsOn w port → IsOn w (taken port)
taken_on w port is = record {
  on = is.on;
  transfer_width = is.transfer_width;
  wanted = all_beats w port is;
  shift = is.shift;
  transfer = tt;
  value = is.value;
  driven = is.driven;
  input = is.input;
  counter = is.counter;
  time = is.time;
  sample_stamp = is.sample_stamp;
  stamp = is.sample_stamp;
}
