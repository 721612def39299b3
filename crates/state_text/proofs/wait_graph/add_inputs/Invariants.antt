use Rattle.std.proofs.Common.{◌≡◌, ◌+◌, ◌++◌, take, length, map}
use Rattle.look_model.specs.WaitGraph.{waits_of_input}
use Rattle.state_text.proofs.wait_graph.add_inputs.Given as goal

abbrev pub invariant-loop-i : goal.invariant-loop-i
invariant-loop-i l = record {
  graph :
      map (λ edges. edges.items) l.graph.items
      ≡ map (λ edges. edges.items) l.initial.graph.items ++ map (waits_of_input l.plan l.snaps l.n l.node l.state) (take l.i l.inputs);
  many : length l.graph.items ≡ length l.initial.graph.items + l.i;
}
