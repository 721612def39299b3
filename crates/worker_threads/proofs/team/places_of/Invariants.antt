use Rattle.std.proofs.Common.{◌≡◌, ◌+◌, length}
use Rattle.std.specs.List.{AllByRecursion}
use Rattle.std.specs.Vec.Iter.{into_iter_items, into_iter_len}
use Rattle.worker_threads.specs.Team.{AllFrom, IsFreshAt, IsPlace, IsReady}
use Rattle.worker_threads.proofs.team.places_of.Given as goal

abbrev pub invariant-loop-node : goal.invariant-loop-node
invariant-loop-node g l = record {
  count : length l.places.items + into_iter_len l.node-iterator ≡ length l.lanes.plan.nodes;
  rest : AllFrom (length l.places.items) (IsFreshAt l.lanes l.limit) (into_iter_items l.node-iterator);
  places : AllFrom 0 (IsPlace l.lanes l.limit) l.places.items;
  ready : AllByRecursion IsReady l.places.items;
}
