-- Ports: what rows do at them.
use Rattle.std.specs.Prelude.{ℕ, ◌%◌, ◌^◌, Bool, true, false, ◌&&◌, ◌||◌, not, ◌==◌, nat_le, nat_lt, if◌then◌else◌, Option, Some, None, is_some, [], length}
use Rattle.xs_base.specs.Numbers.{Word, PortNumber}
use Rattle.xs_base.specs.Ids.{port_width}
use Rattle.xs_model.specs.declared.clock.Clock.{Clock}
use Rattle.xs_model.specs.declared.clock.Clock.TheVariants.{Reference, Block}
use Rattle.xs_model.specs.declared.modes.TheConstants.{OFF, ON, NO_CONDITION, EQUAL, NOT_EQUAL, CLEAR, NO_BUFFERS, BUFFERS}
use Rattle.xs_model.specs.declared.pins.PinChange.{PinChange}
use Rattle.xs_model.specs.declared.pins.PinChange.TheVariants.{Float}
use Rattle.xs_model.specs.declared.thread.Wait.{Wait}
use Rattle.xs_model.specs.declared.thread.Wait.TheVariants.{PortFull, PortEmpty, PortIdle}
use Rattle.xs_model.specs.Record.{PortRec, TransferRec, Condition, Always, Equal, NotEqual, off_port}
use Rattle.xs_model.specs.Bits.{value_of}
use Rattle.xs_model.specs.Ports.{level_of, came_in}

-- what comes of a row at a port
pub data Acted : Type 0 where
  -- it is done
  Did : (port : PortRec) (change : Option PinChange) → Acted
  -- it is done, and gives a word
  Got : (port : PortRec) (word : Word) → Acted
  -- its thread has to wait
  Waits : (port : PortRec) (wait : Wait) (change : Option PinChange) → Acted
  Refused : Acted

-- a port that is off refuses all but to be turned on
abbrev pub where_on : PortRec → Acted → Acted
where_on port acted = if port.on then acted else Refused

abbrev pub done : PortRec → Acted
done port = Did port None

abbrev pub where_allowed : Bool → PortRec → Acted
where_allowed is_allowed after = if is_allowed then done after else Refused

-- ---- On and off

-- a port of this width that was just turned on
abbrev pub on_port : ℕ → PortRec
on_port width = record off_port { on = true; transfer_width = width; wanted = width }

-- it lets go of its pins, if it drove them
abbrev pub let_go : PortRec → Option PinChange
let_go port = if is_some port.driven then Some Float else None

abbrev pub turned_on : ℕ → PortRec → Acted
turned_on width port = Did (on_port width) (let_go port)

abbrev pub turned_off : PortRec → Acted
turned_off port = where_on port (Did off_port (let_go port))

-- ---- Settings

-- both registers are empty, and there is no time, no condition and nothing held
abbrev pub cleared : PortRec → PortRec
cleared port = record port { shift = []; transfer = None; time = None; condition = Always; held = false }

-- in direction input what was sampled is dropped
abbrev pub resampled : PortRec → PortRec
resampled port = if port.output then port else record port { transfer = None; held = false }

abbrev pub with_condition : Condition → PortRec → PortRec
with_condition condition port = resampled (record port { condition = condition })

abbrev pub unbuffered : ℕ → PortRec → PortRec
unbuffered width port = cleared (record port { buffered = false; transfer_width = width; wanted = width })

abbrev pub buffered : PortRec → PortRec
buffered port = cleared (record port { buffered = true })

-- the modes of a port but for on and off
abbrev pub set_mode : ℕ → Word → PortRec → Acted
set_mode width mode port =
    if mode == NO_CONDITION then done (with_condition Always port)
    else (if mode == EQUAL then done (with_condition Equal port)
    else (if mode == NOT_EQUAL then done (with_condition NotEqual port)
    else (if mode == CLEAR then done (cleared port)
    else (if mode == NO_BUFFERS then done (unbuffered width port)
    else (if mode == BUFFERS then done (buffered port)
    else Refused)))))

-- all modes of a port
abbrev pub in_mode : ℕ → Word → PortRec → Acted
in_mode width mode port =
    if mode == ON then turned_on width port
    else (if mode == OFF then turned_off port
    else where_on port (set_mode width mode port))

-- it goes by another clock, and its counter begins anew
abbrev pub with_clock : Clock → PortRec → PortRec
with_clock clock port = record port { clock = clock; counter = 0 }

abbrev pub set_clock : Clock → PortRec → Acted
set_clock clock port = where_on port (done (with_clock clock port))

-- another port of one pin that is on may be its strobe
abbrev pub may_strobe : PortNumber → PortNumber → PortRec → Bool
may_strobe p strobe strobe_port = not (strobe == p) && ((port_width strobe == 1) && strobe_port.on)

abbrev pub set_strobe : Option PortNumber → PortRec → Acted
set_strobe strobe port = where_on port (done (record port { strobe = strobe }))

-- the width of a transfer may be one of these, and a multiple of the port's
abbrev pub is_transfer_width : ℕ → ℕ → Bool
is_transfer_width width x =
    ((x == 1) || ((x == 4) || ((x == 8) || ((x == 16) || (x == 32))))) && (x % width == 0)

abbrev pub with_transfer_width : ℕ → PortRec → PortRec
with_transfer_width x port = cleared (record port { transfer_width = x; wanted = x })

abbrev pub set_transfer_width : ℕ → Word → PortRec → Acted
set_transfer_width width x port =
    where_on port (where_allowed (port.buffered && is_transfer_width width x) (with_transfer_width x port))

abbrev pub set_value : ℕ → Word → PortRec → Acted
set_value width x port = where_on port (done (record port { value = x % 2 ^ width }))

abbrev pub set_time : Word → PortRec → Acted
set_time x port = where_on port (done (resampled (record port { time = Some (x % 2 ^ 16) })))

abbrev pub clear_time : PortRec → Acted
clear_time port = where_on port (done (record port { time = None }))

-- ---- What is told

abbrev pub tell_value : PortRec → Acted
tell_value port = where_on port (Got port port.value)

abbrev pub tell_stamp : PortRec → Acted
tell_stamp port = where_on port (Got port port.stamp)

-- what the pins show, which show this from outside
abbrev pub peek : Word → PortRec → Acted
peek outside port = where_on port (Got port (level_of port.driven outside))

-- ---- Input

-- whether something is left in one of its registers, and whether nothing is left to go out
abbrev pub has_left : PortRec → Bool
has_left port = is_some port.transfer || nat_lt 0 (length port.shift)

abbrev pub is_idle : PortRec → Bool
is_idle port = not (port.output && has_left port)

-- it turns to input, and lets go of its pins
abbrev pub turned_in : PortRec → PortRec
turned_in port = record port { output = false; shift = []; transfer = None; time = None; driven = None }

-- from the time when its thread waits so many bits are wanted, where the row names them
abbrev pub wanting : Option ℕ → PortRec → PortRec
wanting None port = port
wanting (Some bits) port = record port { wanted = bits }

-- the thread takes what came in, whose stamp is the port's stamp now
abbrev pub taken : PortRec → PortRec
taken port = record port {
  transfer = None;
  stamp = port.sample_stamp;
  held = false;
  condition = Always;
  wanted = port.transfer_width;
}

abbrev pub take_transfer : PortNumber → Option ℕ → PortRec → Option TransferRec → Acted
take_transfer p wanted port None = Waits (wanting wanted port) (PortFull p) None
take_transfer p wanted port (Some t) = Got (taken port) t.value

-- in direction output the thread waits in any case: until all went out, and then for what comes in
abbrev pub turn_in : PortNumber → Option ℕ → PortRec → Acted
turn_in p wanted port =
    if not (has_left port)
    then Waits (wanting wanted (turned_in port)) (PortFull p) (let_go port)
    else Waits (wanting wanted port) (PortIdle p) None

abbrev pub take_in : PortNumber → Option ℕ → PortRec → Acted
take_in p wanted port = where_on port (if port.output then turn_in p wanted port else take_transfer p wanted port port.transfer)

-- whether a transfer of a buffered port may have so many bits
abbrev pub is_part : ℕ → ℕ → PortRec → Bool
is_part width bits port = port.buffered && ((bits % width == 0) && nat_le bits port.transfer_width)

abbrev pub take_part : PortNumber → ℕ → PortRec → Acted
take_part p bits port = if is_part (port_width p) bits port then take_in p (Some bits) port else Refused

-- the bits that came in so far are taken as a transfer, where the transfer register is empty and there are some
abbrev pub cut_short : PortRec → PortRec
cut_short port =
    if nat_lt 0 (length port.shift)
    then record port {
      transfer = Some (came_in (value_of port.shift) (length port.shift));
      sample_stamp = port.counter;
      shift = [];
    }
    else port

-- so many bits are, or will be, in the transfer register
abbrev pub end_transfer : PortRec → Option TransferRec → Acted
end_transfer port (Some t) = Got port port.transfer_width
end_transfer port None = Got (cut_short port) (length port.shift)

abbrev pub end_in : PortRec → Acted
end_in port = where_on port (if port.output || not port.buffered then Refused else end_transfer port port.transfer)

-- ---- Output

-- it turns to output; the time stays
abbrev pub turned_out : PortRec → PortRec
turned_out port = record port { output = true; shift = []; transfer = None; condition = Always; held = false }

-- the transfer register takes so many bits of a word, and the port's time, which is none then
abbrev pub filled : ℕ → Word → PortRec → PortRec
filled bits word port =
    record port { transfer = Some (record { value = word % 2 ^ bits; bits = bits; time = port.time }); time = None }

abbrev pub fill : PortNumber → ℕ → Word → PortRec → Acted
fill p bits word port =
    if is_some port.transfer then Waits port (PortEmpty p) None else done (filled bits word port)

abbrev pub put_bits : PortNumber → ℕ → Word → PortRec → Acted
put_bits p bits word port = where_on port (fill p bits word (if port.output then port else turned_out port))

abbrev pub put_out : PortNumber → Word → PortRec → Acted
put_out p word port = put_bits p port.transfer_width word port

abbrev pub put_part : PortNumber → ℕ → Word → PortRec → Acted
put_part p bits word port = if is_part (port_width p) bits port then put_bits p bits word port else Refused

-- ---- Waiting until all went out

abbrev pub sync : PortNumber → PortRec → Acted
sync p port = where_on port (if is_idle port then done port else Waits port (PortIdle p) None)

-- ---- A clock block that starts: the counters of the ports that go by it begin anew

abbrev pub goes_by : ℕ → Clock → Bool
goes_by n Reference = false
goes_by n (Block k) = k == n

abbrev pub restarted : ℕ → PortRec → PortRec
restarted n port = if goes_by n port.clock then record port { counter = 0 } else port
