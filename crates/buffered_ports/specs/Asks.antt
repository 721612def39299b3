-- What may be asked of the ports of a core.
use Rattle.std.specs.Prelude.{Bool, true, if◌then◌else◌, Some, List, replicate, slice_index_or}
use Rattle.xs_base.specs.Numbers.{Word, PortNumber}
use Rattle.xs_model.specs.Record.{PortRec, off_port}
use Rattle.xs_model.specs.PortActions.{Acted, Refused, may_strobe}
use Rattle.single_port.specs.declared.answers.Ask.{Ask}
use Rattle.single_port.specs.declared.answers.Ask.TheVariants as ask
pub use Rattle.single_port.specs.Asks.{IsClock, IsStrobe, IsAsk, acted, answer_of, port_after, wait_of, FitsTransfer}

-- all ports are off
abbrev pub no_ports : List PortRec
no_ports = replicate 29 off_port

abbrev pub port_at : List PortRec → PortNumber → PortRec
port_at ports p = slice_index_or ports p off_port

-- whether the ports allow what is asked of port p: only another port of one pin that is on may be its strobe
abbrev pub is_allowed : Ask → List PortRec → PortNumber → Bool
is_allowed (ask.Strobe (Some strobe)) ports p = may_strobe p strobe (port_at ports strobe)
is_allowed _ ports p = true

-- what comes of what is asked of port p
abbrev pub asked : Ask → List PortRec → PortNumber → Word → PortRec → Acted
asked ask ports p outside port = if is_allowed ask ports p then acted ask p outside port else Refused
