-- The ends of a node to which arcs come: those of links, and from end 8 on those of wires.
use Rattle.std.specs.Prelude.{ℕ, ◌+◌, ◌-◌, ◌<◌, ◌≤◌, nat_lt, if◌then◌else◌, List, slice_set}
use Rattle.xs_base.specs.Numbers.{EndNumber}
use Rattle.xs_base.specs.declared.numbers.TheConstants.{LINK_ENDS}
use Rattle.xs_base.specs.declared.entry.Entry.{Entry}
use Rattle.node_runners.specs.declared.inlets.Inlets.{Inlets}
use Rattle.node_runners.specs.Queue.{InletRec, inlet_at, longer}
use Rattle.node_runners.specs.Wires.{wire_in, longer_wire}

-- an end is one of so many link ends, or of so many ends of wires
pub record IsThere (end : EndNumber) (links wires : ℕ) : Type 0 where
  pub link : end < LINK_ENDS → end < links
  pub wire : LINK_ENDS ≤ end → end < LINK_ENDS + wires

-- what waits at an end
abbrev pub inlet_by : Inlets → EndNumber → InletRec
inlet_by inlets end = if nat_lt end LINK_ENDS then inlet_at inlets.links.ends end else (wire_in inlets.wires (end - LINK_ENDS)).inlet

-- this was seen after what waits at an end
abbrev pub heard_at : EndNumber → List Entry → Inlets → Inlets
heard_at end entries inlets =
    if nat_lt end LINK_ENDS
    then record inlets { links = record inlets.links { ends = slice_set inlets.links.ends end (longer (inlet_at inlets.links.ends end) entries) } }
    else record inlets { wires = slice_set inlets.wires (end - LINK_ENDS) (longer_wire (wire_in inlets.wires (end - LINK_ENDS)) entries) }
