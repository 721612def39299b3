-- An edge at one port of a core.
use Rattle.std.specs.Prelude.{Bool, List}
use Rattle.xs_base.specs.Numbers.{Word, PortNumber}
use Rattle.xs_base.specs.Ids.{port_width}
use Rattle.xs_model.specs.declared.clock.Edge.{Edge}
use Rattle.xs_model.specs.Record.{PortRec}
use Rattle.xs_model.specs.Ports.{Edged, at_edge, level_of}
use Rattle.buffered_ports.specs.Asks.{port_at}

-- what an edge of its clock does at port p, which is on: its pins show this from outside, and its strobe, if it has one, is high or low
abbrev pub edge_at_port : PortNumber → Edge → Word → Bool → List PortRec → Edged
edge_at_port p edge outside high ports = at_edge (port_width p) edge (level_of (port_at ports p).driven outside) high (port_at ports p)
