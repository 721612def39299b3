use Rattle.std.proofs.Common.{◌≡◌, ◌++◌, length}
use Rattle.trace_model.specs.EventOrder.{node_after_node}
use Rattle.trace_merge.specs.Nodes.{events_of, AreWithinCounts, AreOfNodes}
use Rattle.trace_merge.proofs.Told.{told_from}
use Rattle.trace_merge.proofs.order.all_events.Given as goal

abbrev pub invariant-loop-k : goal.invariant-loop-k
invariant-loop-k l = record {
  all : l.all.items ++ told_from l.k l.nodes ≡ node_after_node 0 (events_of l.nodes);
  within : AreWithinCounts l.all.items;
  positions : AreOfNodes (length l.nodes) l.all.items;
}
