-- What may be asked of a port, and what it answers.
use Rattle.std.specs.Prelude.{ℕ, ◌<◌, Option, Some, None, ◌^◌}
use Rattle.xs_base.specs.Numbers.{Word, PortNumber}
use Rattle.xs_base.specs.Ids.{port_width}
use Rattle.xs_base.specs.declared.numbers.TheConstants.{PORTS, CLOCK_BLOCKS}
use Rattle.xs_model.specs.declared.clock.Clock.{Clock}
use Rattle.xs_model.specs.declared.clock.Clock.TheVariants.{Reference, Block}
use Rattle.xs_model.specs.declared.thread.Wait.{Wait}
use Rattle.xs_model.specs.Record.{PortRec}
use Rattle.xs_model.specs.PortActions.{Acted, Did, Got, Waits, Refused, in_mode, set_clock, set_strobe, set_transfer_width, set_value, set_time, clear_time, tell_value, tell_stamp, peek, take_in, take_part, put_out, put_part, end_in, sync}
use Rattle.single_port.specs.declared.answers.Ask.{Ask}
use Rattle.single_port.specs.declared.answers.Ask.TheVariants as ask
use Rattle.single_port.specs.declared.answers.Reply.{Reply}
use Rattle.single_port.specs.declared.answers.Reply.TheVariants as reply
use Rattle.single_port.specs.declared.answers.Answer.{Answer}

-- the reference, or a clock block that a core has
abbrev pub IsClock : Clock → Type 0
IsClock Reference = Unit {0}
IsClock (Block k) = k < CLOCK_BLOCKS

abbrev pub IsStrobe : Option PortNumber → Type 0
IsStrobe None = Unit {0}
IsStrobe (Some strobe) = strobe < PORTS

-- what is asked names clock blocks and ports that a core has
abbrev pub IsAsk : Ask → Type 0
IsAsk (ask.Clock clock) = IsClock clock
IsAsk (ask.Strobe strobe) = IsStrobe strobe
IsAsk _ = Unit {0}

-- what comes of what is asked of port p and allowed, which is this port, and whose pins show this from outside
abbrev pub acted : Ask → PortNumber → Word → PortRec → Acted
acted (ask.Mode mode) p outside port = in_mode (port_width p) mode port
acted (ask.Clock clock) p outside port = set_clock clock port
acted (ask.Strobe strobe) p outside port = set_strobe strobe port
acted (ask.Width x) p outside port = set_transfer_width (port_width p) x port
acted (ask.Value x) p outside port = set_value (port_width p) x port
acted (ask.Time x) p outside port = set_time x port
acted ask.NoTime p outside port = clear_time port
acted ask.In p outside port = take_in p None port
acted (ask.InPart bits) p outside port = take_part p bits port
acted (ask.Out x) p outside port = put_out p x port
acted (ask.OutPart x bits) p outside port = put_part p bits x port
acted ask.EndIn p outside port = end_in port
acted ask.Sync p outside port = sync p port
acted ask.Stamp p outside port = tell_stamp port
acted ask.Peek p outside port = peek outside port
acted ask.GetValue p outside port = tell_value port

-- how a port answers
abbrev pub answer_of : Acted → Answer
answer_of (Did port change) = record { reply = reply.Done; pin = change }
answer_of (Got port word) = record { reply = reply.Got word; pin = None }
answer_of (Waits port wait change) = record { reply = reply.Pause wait; pin = change }
answer_of Refused = record { reply = reply.Bad; pin = None }

-- what is left of a port that was this: where it refuses, all of it
abbrev pub port_after : PortRec → Acted → PortRec
port_after old (Did port change) = port
port_after old (Got port word) = port
port_after old (Waits port wait change) = port
port_after old Refused = old

-- what a thread has to wait for, if it has to
abbrev pub wait_of : Acted → Option Wait
wait_of (Waits port wait change) = Some wait
wait_of _ = None

-- a word that came in has no bits above those of a transfer
abbrev pub IsBelow : ℕ → Reply → Type 0
IsBelow bits (reply.Got word) = word < 2 ^ bits
IsBelow bits _ = Unit {0}

abbrev pub FitsTransfer : Ask → ℕ → Reply → Type 0
FitsTransfer ask.In bits reply = IsBelow bits reply
FitsTransfer (ask.InPart part) bits reply = IsBelow bits reply
FitsTransfer _ bits reply = Unit {0}
