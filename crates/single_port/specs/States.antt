-- What a snapshot keeps of a port, the port that it says, and what it may say.
use Rattle.std.specs.Prelude.{ℕ, ◌≡◌, ◌≢◌, ◌<◌, ◌≤◌, ◌-◌, ◌*◌, ◌/◌, ◌%◌, ◌^◌, Bool, true, false, None, IfSome, option_map, length}
use Rattle.xs_base.specs.Numbers.{PortNumber}
use Rattle.xs_base.specs.Ids.{port_width}
use Rattle.xs_model.specs.Record.{PortRec, TransferRec, Condition, Always, Equal, NotEqual}
use Rattle.xs_model.specs.Bits.{bits_of, value_of}
use Rattle.xs_model.specs.PortActions.{is_transfer_width}
use Rattle.xs_model.specs.declared.clock.Clock.TheVariants.{Reference}
use Rattle.single_port.specs.declared.state.Condition.{Condition as ConditionState}
use Rattle.single_port.specs.declared.state.Condition.TheVariants as condition
use Rattle.single_port.specs.declared.state.Transfer.{Transfer}
use Rattle.single_port.specs.declared.state.PortState.{PortState}
use Rattle.single_port.specs.Asks.{IsClock}

-- ---- Conditions and transfers

abbrev pub condition_state : Condition → ConditionState
condition_state Always = condition.None
condition_state Equal = condition.Equal
condition_state NotEqual = condition.NotEqual

abbrev pub condition_of : ConditionState → Condition
condition_of condition.None = Always
condition_of condition.Equal = Equal
condition_of condition.NotEqual = NotEqual

abbrev pub transfer_state : TransferRec → Transfer
transfer_state t = record { value = t.value; bits = t.bits; time = t.time }

abbrev pub transfer_of : Transfer → TransferRec
transfer_of t = record { value = t.value; bits = t.bits; time = t.time }

-- ---- The shift register

-- So many bits as a number: in direction output they are its lowest, and in direction input its highest, which has as many bits
-- as a transfer.
abbrev pub shift_state : (output : Bool) (transfer_width count word : ℕ) → ℕ
shift_state true transfer_width count word = word
shift_state false transfer_width count word = word * 2 ^ (transfer_width - count)

-- what they are by themselves
abbrev pub shift_word : (output : Bool) (transfer_width count sr : ℕ) → ℕ
shift_word true transfer_width count sr = sr
shift_word false transfer_width count sr = sr / 2 ^ (transfer_width - count)

-- the number has no other bits
abbrev pub IsShiftState : (output : Bool) (transfer_width count sr : ℕ) → Type 0
IsShiftState true transfer_width count sr = sr < 2 ^ count
IsShiftState false transfer_width count sr = (sr < 2 ^ transfer_width) × (sr % 2 ^ (transfer_width - count) ≡ 0)

-- ---- Ports

-- what a snapshot keeps of a port
abbrev pub port_state : PortRec → PortState
port_state port = record {
  on = port.on;
  output = port.output;
  clock = port.clock;
  counter = port.counter;
  buffers = port.buffered;
  tw = port.transfer_width;
  want = port.wanted;
  value = port.value;
  condition = condition_state port.condition;
  time = port.time;
  sr = shift_state port.output port.transfer_width (length port.shift) (value_of port.shift);
  count = length port.shift;
  tr = option_map transfer_state port.transfer;
  held = port.held;
  sample_stamp = port.sample_stamp;
  stamp = port.stamp;
  strobe = port.strobe;
  driven = port.driven;
}

-- the port that it says
abbrev pub port_of : PortState → PortRec
port_of state = record {
  on = state.on;
  output = state.output;
  clock = state.clock;
  counter = state.counter;
  buffered = state.buffers;
  transfer_width = state.tw;
  wanted = state.want;
  value = state.value;
  condition = condition_of state.condition;
  time = state.time;
  shift = bits_of state.count (shift_word state.output state.tw state.count state.sr);
  transfer = option_map transfer_of state.tr;
  held = state.held;
  sample_stamp = state.sample_stamp;
  stamp = state.stamp;
  strobe = state.strobe;
  driven = state.driven;
}

-- that of one that is off
abbrev pub off_state : PortState
off_state = record {
  on = false;
  output = false;
  clock = Reference;
  counter = 0;
  buffers = false;
  tw = 0;
  want = 0;
  value = 0;
  condition = condition.None;
  time = None;
  sr = 0;
  count = 0;
  tr = None;
  held = false;
  sample_stamp = 0;
  stamp = 0;
  strobe = None;
  driven = None;
}

-- ---- What it may say

-- so many bits are whole beats of a port of this width, and no more than these
pub record AreBeats (width largest bits : ℕ) : Type 0 where
  pub whole : bits % width ≡ 0
  pub most : bits ≤ largest

-- a transfer has some beats, and a value that fits them
pub record IsTransferState (width transfer_width : ℕ) (t : Transfer) : Type 0 where
  pub beats : AreBeats width transfer_width t.bits
  pub some : 0 < t.bits
  pub value : t.value < 2 ^ t.bits

-- another port of one pin
pub record IsStrobeState (p strobe : PortNumber) : Type 0 where
  pub other : strobe ≢ p
  pub one : strobe < 16

-- what it may say of port p, which is on
pub record IsOnState (p : PortNumber) (state : PortState) : Type 0 where
  pub clock : IsClock state.clock
  pub transfer_width : is_transfer_width (port_width p) state.tw ≡ true
  pub unbuffered : state.buffers ≡ false → state.tw ≡ port_width p
  pub want : AreBeats (port_width p) state.tw state.want
  pub value : state.value < 2 ^ port_width p
  pub count : AreBeats (port_width p) state.tw state.count
  pub shift : IsShiftState state.output state.tw state.count state.sr
  pub transfer : IfSome state.tr (IsTransferState (port_width p) state.tw)
  pub strobe : IfSome state.strobe (IsStrobeState p)
  pub driven : IfSome state.driven (λ value. value < 2 ^ port_width p)

-- what it may say of port p, be it on or off
pub record IsPortState (p : PortNumber) (state : PortState) : Type 0 where
  pub off : state.on ≡ false → state ≡ off_state
  pub on : state.on ≡ true → IsOnState p state
