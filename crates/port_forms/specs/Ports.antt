-- How ports stand in bytes.
use Rattle.std.specs.Prelude.{ℕ, ◌<◌, ◌+◌, ◌-◌, ◌%◌, ◌^◌, Bool, ◌&&◌, ◌||◌, not, ◌==◌, nat_lt, nat_le, if◌then◌else◌}
use Rattle.std.specs.Prelude.{List, [], ◌∷◌, length, slice_index_or, Option, Some, None, is_some, IfSome, option_map}
use Rattle.xs_base.specs.Numbers.{PortNumber}
use Rattle.xs_base.specs.Ids.{port_width}
use Rattle.xs_base.specs.declared.numbers.TheConstants.{CLOCK_BLOCKS, PORTS}
use Rattle.xs_model.specs.declared.clock.Clock.{Clock}
use Rattle.xs_model.specs.declared.clock.Clock.TheVariants.{Reference, Block}
use Rattle.xs_model.specs.PortActions.{is_transfer_width}
use Rattle.single_port.specs.declared.state.Condition.{Condition}
use Rattle.single_port.specs.declared.state.Condition.TheVariants as conditions
use Rattle.single_port.specs.declared.state.Transfer.{Transfer}
use Rattle.single_port.specs.declared.state.PortState.{PortState}
use Rattle.single_port.specs.States.{off_state}
use Rattle.byte_forms.specs.Forms.{Form, read_byte, byte, half, word, flag, flag_of, byte_of_flag, option_of, flag_and_value, below, where_is, both, seen_as, chain}
use Rattle.port_forms.specs.declared.port_parts.Basics.{Basics}
use Rattle.port_forms.specs.declared.port_parts.Widths.{Widths}
use Rattle.port_forms.specs.declared.port_parts.Trigger.{Trigger}
use Rattle.port_forms.specs.declared.port_parts.Shift.{Shift}
use Rattle.port_forms.specs.declared.port_parts.Tail.{Tail}

-- ---- Fields

-- A number that stands in one byte. Of a greater one the low byte is written.
abbrev pub low_byte : Form ℕ
low_byte = record { read = read_byte; write = λ n. n % 256 ∷ []; Holds = λ n. n < 256 }

-- a number's limit, which is 1 where the number has to be 0
abbrev pub limit_where : Bool → ℕ → ℕ
limit_where allowed limit = if allowed then limit else 1

-- a flag, 0 where it is not allowed
abbrev pub flag_where : Bool → Form Bool
flag_where allowed = seen_as (below byte (limit_where allowed 2)) flag_of byte_of_flag

-- a flag, 0 where it is not allowed, and a number below a limit, 0 where the flag is 0
abbrev pub option_where : Bool → Form ℕ → ℕ → Form (Option ℕ)
option_where allowed f limit = seen_as (both (flag_where allowed) (λ there. below f (limit_where there limit))) option_of flag_and_value

-- so many bits are whole beats of a width, and no more than these
abbrev pub are_beats : (width most bits : ℕ) → Bool
are_beats width most bits = (bits % width == 0) && nat_le bits most

-- ---- On, direction, clock, counter

abbrev pub clock_of : ℕ → Clock
clock_of n = if n == 0 then Reference else Block (n - 1)

abbrev pub clock_number : Clock → ℕ
clock_number Reference = 0
clock_number (Block k) = 1 + k

-- 0 for the reference, else 1 + the number of a clock block
unfoldable pub clock : Bool → Form Clock
clock on = seen_as (below low_byte (limit_where on (1 + CLOCK_BLOCKS))) clock_of clock_number

abbrev pub basics_of : Bool × (Bool × (Clock × ℕ)) → Basics
basics_of p = record { on = p.0; output = p.1.0; clock = p.1.1.0; counter = p.1.1.1 }

abbrev pub basics_parts : Basics → Bool × (Bool × (Clock × ℕ))
basics_parts b = (b.on, (b.output, (b.clock, b.counter)))

-- Whether it is on, its direction, 0 for input and 1 for output, its clock and its counter. From here on all fields of a port that is off are 0.
unfoldable pub basics : Form Basics
basics = seen_as (both flag (λ on. both (flag_where on) (λ output. both (clock on) (λ clock. below half (limit_where on (2 ^ 16)))))) basics_of basics_parts

-- ---- Buffers, transfer width, wanted bits, value

-- a transfer width, which is the port's own where it has no buffers, and 0 where it is off
abbrev pub is_tw : (p : PortNumber) (on buffers : Bool) (tw : ℕ) → Bool
is_tw p on buffers tw = if on then is_transfer_width (port_width p) tw && (buffers || (tw == port_width p)) else tw == 0

abbrev pub widths_of : Bool × (ℕ × (ℕ × ℕ)) → Widths
widths_of p = record { buffers = p.0; tw = p.1.0; want = p.1.1.0; value = p.1.1.1 }

abbrev pub widths_parts : Widths → Bool × (ℕ × (ℕ × ℕ))
widths_parts w = (w.buffers, (w.tw, (w.want, w.value)))

-- Whether it has buffers, its transfer width, what is wanted, and the condition's value. What is wanted is 0 where the transfer width is 0.
unfoldable pub widths : (p : PortNumber) (on : Bool) → Form Widths
widths p on = seen_as
    (both (flag_where on) (λ buffers.
    both (where_is low_byte (is_tw p on buffers)) (λ tw.
    both (where_is low_byte (are_beats (port_width p) tw)) (λ want.
    below word (limit_where on (2 ^ port_width p))))))
    widths_of widths_parts

-- ---- Condition, time

abbrev pub condition_of : ℕ → Condition
condition_of n = if n == 0 then conditions.None else (if n == 1 then conditions.Equal else conditions.NotEqual)

abbrev pub condition_number : Condition → ℕ
condition_number conditions.None = 0
condition_number conditions.Equal = 1
condition_number conditions.NotEqual = 2

-- 0 for none, 1 for equal, 2 for not equal
unfoldable pub condition : Bool → Form Condition
condition on = seen_as (below byte (limit_where on 3)) condition_of condition_number

abbrev pub trigger_of : Condition × Option ℕ → Trigger
trigger_of p = record { condition = p.0; time = p.1 }

abbrev pub trigger_parts : Trigger → Condition × Option ℕ
trigger_parts t = (t.condition, t.time)

-- its condition and an optional time
unfoldable pub trigger : Bool → Form Trigger
trigger on = seen_as (both (condition on) (λ condition. option_where on half (2 ^ 16))) trigger_of trigger_parts

-- ---- Shift register

-- In direction input the number has no bits above a transfer's. In direction output its limit depends on the count, which follows it.
abbrev pub sr_limit : (output : Bool) (tw : ℕ) → ℕ
sr_limit output tw = if output then 2 ^ 32 else 2 ^ tw

-- The register may have so many bits and this number: in direction output they are its lowest, and in direction input the highest of a transfer.
abbrev pub is_count : (p : PortNumber) (output : Bool) (tw sr count : ℕ) → Bool
is_count p output tw sr count = are_beats (port_width p) tw count && (if output then nat_lt sr (2 ^ count) else (sr % 2 ^ (tw - count) == 0))

abbrev pub shift_of : ℕ × ℕ → Shift
shift_of p = record { sr = p.0; count = p.1 }

abbrev pub shift_parts : Shift → ℕ × ℕ
shift_parts s = (s.sr, s.count)

-- The register as a number, and how many bits it has. A port that is off has direction input and transfer width 0, and so 0 for both.
unfoldable pub shift : (p : PortNumber) (output : Bool) (tw : ℕ) → Form Shift
shift p output tw = seen_as (both (below word (sr_limit output tw)) (λ sr. where_is byte (is_count p output tw sr))) shift_of shift_parts

-- ---- Transfer register

-- the register may have so many bits and this value, and 0 bits where it is empty
abbrev pub are_bits : (p : PortNumber) (tw : ℕ) (value : Option ℕ) (bits : ℕ) → Bool
are_bits p tw None bits = bits == 0
are_bits p tw (Some value) bits = are_beats (port_width p) tw bits && (nat_lt 0 bits && nat_lt value (2 ^ bits))

abbrev pub transfer_of : Option ℕ × (ℕ × Option ℕ) → Option Transfer
transfer_of p = option_map (λ (value : ℕ). record { value = value; bits = p.1.0; time = p.1.1 }) p.0

abbrev pub transfer_parts : Option Transfer → Option ℕ × (ℕ × Option ℕ)
transfer_parts None = (None, (0, None))
transfer_parts (Some t) = (Some t.value, (t.bits, t.time))

-- an optional value, then its bits and an optional time, which are 0 where it is empty
unfoldable pub transfer : (p : PortNumber) (on : Bool) (tw : ℕ) → Form (Option Transfer)
transfer p on tw = seen_as
    (both (option_where on word (2 ^ 32)) (λ value.
    both (where_is byte (are_bits p tw value)) (λ bits.
    option_where (is_some value) half (2 ^ 16))))
    transfer_of transfer_parts

-- ---- Held, stamps, strobe, driven value

-- 0 for no strobe, or 1 + the number of another port of one pin; 0 where the port is off
abbrev pub is_strobe : (p : PortNumber) (on : Bool) (n : ℕ) → Bool
is_strobe p on n = if on then nat_le n 16 && not (n == 1 + p) else n == 0

abbrev pub strobe_of : ℕ → Option ℕ
strobe_of n = if n == 0 then None else Some (n - 1)

abbrev pub strobe_number : Option ℕ → ℕ
strobe_number None = 0
strobe_number (Some s) = 1 + s

unfoldable pub strobe : (p : PortNumber) (on : Bool) → Form (Option ℕ)
strobe p on = seen_as (where_is low_byte (is_strobe p on)) strobe_of strobe_number

abbrev pub tail_of : Bool × (ℕ × (ℕ × (Option ℕ × Option ℕ))) → Tail
tail_of p = record { held = p.0; sample_stamp = p.1.0; stamp = p.1.1.0; strobe = p.1.1.1.0; driven = p.1.1.1.1 }

abbrev pub tail_parts : Tail → Bool × (ℕ × (ℕ × (Option ℕ × Option ℕ)))
tail_parts t = (t.held, (t.sample_stamp, (t.stamp, (t.strobe, t.driven))))

-- whether it is held, its sample stamp, its stamp, its strobe, and an optional driven value
unfoldable pub tail : (p : PortNumber) (on : Bool) → Form Tail
tail p on = seen_as
    (both (flag_where on) (λ held.
    both (below half (limit_where on (2 ^ 16))) (λ sample_stamp.
    both (below half (limit_where on (2 ^ 16))) (λ stamp.
    both (strobe p on) (λ strobe.
    option_where on word (2 ^ port_width p))))))
    tail_of tail_parts

-- ---- Ports

abbrev pub Parts : Type 0
Parts = Basics × (Widths × (Trigger × (Shift × (Option Transfer × Tail))))

abbrev pub port_of : Parts → PortState
port_of p = record {
  on = p.0.on;
  output = p.0.output;
  clock = p.0.clock;
  counter = p.0.counter;
  buffers = p.1.0.buffers;
  tw = p.1.0.tw;
  want = p.1.0.want;
  value = p.1.0.value;
  condition = p.1.1.0.condition;
  time = p.1.1.0.time;
  sr = p.1.1.1.0.sr;
  count = p.1.1.1.0.count;
  tr = p.1.1.1.1.0;
  held = p.1.1.1.1.1.held;
  sample_stamp = p.1.1.1.1.1.sample_stamp;
  stamp = p.1.1.1.1.1.stamp;
  strobe = p.1.1.1.1.1.strobe;
  driven = p.1.1.1.1.1.driven;
}

abbrev pub basics_in : PortState → Basics
basics_in s = record { on = s.on; output = s.output; clock = s.clock; counter = s.counter }

abbrev pub widths_in : PortState → Widths
widths_in s = record { buffers = s.buffers; tw = s.tw; want = s.want; value = s.value }

abbrev pub trigger_in : PortState → Trigger
trigger_in s = record { condition = s.condition; time = s.time }

abbrev pub shift_in : PortState → Shift
shift_in s = record { sr = s.sr; count = s.count }

abbrev pub tail_in : PortState → Tail
tail_in s = record { held = s.held; sample_stamp = s.sample_stamp; stamp = s.stamp; strobe = s.strobe; driven = s.driven }

abbrev pub port_parts : PortState → Parts
port_parts s = (basics_in s, (widths_in s, (trigger_in s, (shift_in s, (s.tr, tail_in s)))))

-- port p
unfoldable pub port : PortNumber → Form PortState
port p = seen_as
    (both basics (λ b.
    both (widths p b.on) (λ w.
    both (trigger b.on) (λ t.
    both (shift p b.output w.tw) (λ s.
    both (transfer p b.on w.tw) (λ tr.
    tail p b.on))))))
    port_of port_parts

-- the port that comes after these
abbrev pub next_port : List PortState → Form PortState
next_port before = port (length before)

-- all ports, by number
unfoldable pub ports : Form (List PortState)
ports = chain PORTS next_port

-- the counter, the times and the stamps of a state are numbers of 16 bits
pub record FitsHalves (state : PortState) : Type 0 where
  pub counter : state.counter < 2 ^ 16
  pub time : IfSome state.time (λ t. t < 2 ^ 16)
  pub transfer_time : IfSome state.tr (λ tr. IfSome tr.time (λ t. t < 2 ^ 16))
  pub sample_stamp : state.sample_stamp < 2 ^ 16
  pub stamp : state.stamp < 2 ^ 16

-- those of each of them
abbrev pub FitHalves : List PortState → Type 0
FitHalves states = (p : PortNumber) → p < PORTS → FitsHalves (slice_index_or states p off_state)
