use Rattle.std.proofs.Common.{◌≡◌, ◌++◌, ◌/◌, drop}
use Rattle.net_model.specs.Ways.{way_to}
use Rattle.look_model.specs.WaitGraph.{holds_wanted, inputs_where}
use Rattle.state_text.proofs.wait_graph.holders.Given as goal

abbrev pub invariant-loop-i : goal.invariant-loop-i
invariant-loop-i l =
    l.found.items ++ inputs_where (holds_wanted l.dest (way_to l.node.id l.node.ways l.node.nets l.net (l.dest / 65536))) l.n l.i (drop l.i l.inputs)
    ≡ inputs_where (holds_wanted l.dest (way_to l.node.id l.node.ways l.node.nets l.net (l.dest / 65536))) l.n 0 l.inputs
