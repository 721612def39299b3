-- A node that is still: nothing is on its way in it.
use Rattle.std.specs.Prelude.{Bool, true, false, ◌&&◌, ◌||◌, not, nat_lt, Option, Some, None, List, length}
use Rattle.std.specs.List.{list_any, list_all}
use Rattle.xs_base.specs.declared.numbers.TheConstants.{HEADER_BYTES}
use Rattle.xs_model.specs.Record.{NodeRec, ChanRec, InputRec, LinkRec, PortRec, Want, Out}
use Rattle.xs_model.specs.Choices.{waits_in}

-- whether an input of the switch acts though no token waits at it: it looks for a way, or it sends a header
abbrev pub acts_alone : InputRec → Bool
acts_alone (Want dest net) = true
acts_alone (Out end headers dest) = nat_lt headers HEADER_BYTES
acts_alone _ = false

-- whether tokens wait at a link end, if it is there
abbrev pub link_waits : Option LinkRec → Bool
link_waits None = false
link_waits (Some link) = waits_in link.buffer

-- every channel end's output buffer and every link end's buffer is empty, and no input of the switch acts alone
abbrev pub network_is_still : List ChanRec → List (Option LinkRec) → List InputRec → Bool
network_is_still chans links inputs =
    not (list_any (λ (chan : ChanRec). waits_in chan.output) chans)
    && (not (list_any link_waits links) && not (list_any acts_alone inputs))

-- a port that is on has direction output, and no bits in its shift register
abbrev pub port_is_still : PortRec → Bool
port_is_still port = not port.on || (port.output && not (nat_lt 0 (length port.shift)))

abbrev pub ports_are_still : List PortRec → Bool
ports_are_still ports = list_all port_is_still ports

abbrev pub still : NodeRec → Bool
still rec = network_is_still rec.core.chans rec.links rec.inputs && ports_are_still rec.core.ports
