-- Resource identifiers: the words by which programs name resources.
use Rattle.std.specs.Prelude.{ℕ, zero, suc, ◌+◌, ◌-◌, ◌*◌, ◌/◌, ◌%◌, ◌==◌, nat_lt, if◌then◌else◌, Option, Some, None}
use Rattle.xs_base.specs.Numbers.{NodeId, ChanNumber, PortNumber, Kind, Identifier}
use Rattle.xs_base.specs.declared.numbers.TheConstants.{CHAN_END_KIND, PORTS}

-- channel end n of the node with this id
abbrev pub chan_id : NodeId → ChanNumber → Identifier
chan_id node n = node * 65536 + n * 256 + CHAN_END_KIND

-- the resource with this number, of a kind whose identifiers do not name their node: neither port nor channel end
abbrev pub res_id : ℕ → Kind → Identifier
res_id number kind = number * 256 + kind

-- The ports are 0 to 28: 16 of one pin, 6 of 4, 4 of 8, 2 of 16 and 1 of 32.
abbrev pub port_width : PortNumber → ℕ
port_width port =
    if nat_lt port 16 then 1
    else (if nat_lt port 22 then 4
    else (if nat_lt port 26 then 8
    else (if nat_lt port 28 then 16
    else 32)))

-- a port's place among those of its width
abbrev pub port_index : PortNumber → ℕ
port_index port =
    if nat_lt port 16 then port
    else (if nat_lt port 22 then port - 16
    else (if nat_lt port 26 then port - 22
    else (if nat_lt port 28 then port - 26
    else 0)))

-- a port's letter, from A on
abbrev pub port_letter : PortNumber → ℕ
port_letter port = 65 + port_index port

abbrev pub port_id : PortNumber → Identifier
port_id port = port_width port * 65536 + port_index port * 256

-- the first port of n from number p on that has this identifier
unfoldable pub port_among : ℕ → PortNumber → Identifier → Option PortNumber
port_among zero p name = None
port_among (suc n) p name = if port_id p == name then Some p else port_among n (p + 1) name

-- the port with this identifier, if there is one
abbrev pub port_with : Identifier → Option PortNumber
port_with name = port_among PORTS 0 name

-- the first port of each width
abbrev pub first_of_width : ℕ → PortNumber
first_of_width width =
    if width == 1 then 0
    else (if width == 4 then 16
    else (if width == 8 then 22
    else (if width == 16 then 26
    else 28)))

-- the only port that may have this identifier
abbrev pub port_by : Identifier → PortNumber
port_by name = first_of_width (name / 65536) + name / 256 % 16
