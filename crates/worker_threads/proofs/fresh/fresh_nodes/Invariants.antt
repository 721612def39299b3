use Rattle.std.proofs.Common.{◌≡◌, ◌+◌, length}
use Rattle.std.specs.Vec.Iter.{into_iter_items, into_iter_len}
use Rattle.plan_cells.specs.Ends.{AreNewEnds}
use Rattle.worker_threads.specs.Team.{AllFrom, IsFreshAt}
use Rattle.worker_threads.proofs.fresh.fresh_nodes.Given as goal

abbrev pub invariant-loop-ends : goal.invariant-loop-ends
invariant-loop-ends l = record {
  count : length l.nodes.items + into_iter_len l.ends-iterator ≡ length l.plan.nodes;
  rest : AllFrom (length l.nodes.items) (AreNewEnds l.lanes) (into_iter_items l.ends-iterator);
  nodes : AllFrom 0 (IsFreshAt l.lanes l.limit) l.nodes.items;
}
