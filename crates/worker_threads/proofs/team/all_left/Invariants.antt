use Rattle.std.proofs.Common.{◌≡◌, ◌+◌, length}
use Rattle.std.specs.List.{AllByRecursion}
use Rattle.std.specs.Vec.Iter.{into_iter_items, into_iter_len}
use Rattle.xs_base.specs.Numbers.{Slot}
use Rattle.worker_threads.specs.Team.{AllFrom, ArePlaces, IsPlace, HasNoTurns, IsLeft}
use Rattle.worker_threads.proofs.team.all_left.Given as goal

abbrev pub invariant-loop-place : goal.invariant-loop-place
invariant-loop-place g l = record {
  count : length l.all.items + into_iter_len l.place-iterator ≡ length l.fn.places.items;
  over : AllByRecursion HasNoTurns (into_iter_items l.place-iterator);
  rest : (limit : Slot) → ArePlaces l.lanes limit l.fn.places.items → AllFrom (length l.all.items) (IsPlace l.lanes limit) (into_iter_items l.place-iterator);
  all : (limit : Slot) → ArePlaces l.lanes limit l.fn.places.items → AllFrom 0 (IsLeft l.lanes limit) l.all.items;
}
