use Rattle.std.proofs.Common.{◌≡◌, ◌≤◌, ◌*◌, ◌++◌, drop, length, map}
use Rattle.look_model.specs.WaitGraph.{waits_from, waiters}
use Rattle.state_text.proofs.wait_graph.wait_graph.Given as goal

abbrev pub invariant-loop-n : goal.invariant-loop-n
invariant-loop-n l = record {
  graph :
      map (λ edges. edges.items) l.graph.items ++ waits_from l.plan l.snaps l.n (drop l.n l.nodes)
      ≡ waits_from l.plan l.snaps 0 l.nodes;
  many : length l.graph.items ≤ l.n * waiters;
}
