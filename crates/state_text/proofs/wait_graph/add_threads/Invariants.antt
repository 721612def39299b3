use Rattle.std.proofs.Common.{◌≡◌, ◌+◌, ◌++◌, drop, length, map}
use Rattle.look_model.specs.WaitGraph.{waits_of_threads}
use Rattle.state_text.proofs.wait_graph.add_threads.Given as goal

abbrev pub invariant-loop-k : goal.invariant-loop-k
invariant-loop-k l = record {
  graph :
      map (λ edges. edges.items) l.graph.items ++ waits_of_threads l.n l.state l.k (drop l.k l.threads)
      ≡ map (λ edges. edges.items) l.initial.graph.items ++ waits_of_threads l.n l.state 0 l.threads;
  many : length l.graph.items ≡ length l.initial.graph.items + l.k;
}
