use Rattle.std.proofs.Common.{◌≡◌, length, take}
use Rattle.std.specs.List.{AllByRecursion}
use Rattle.xs_base.specs.Numbers.{Slot}
use Rattle.plan_cells.specs.Ends.{CellsRec}
use Rattle.worker_threads.specs.Team.{ArePlaces, IsReady, some_have_turns}
use Rattle.worker_threads.proofs.team.take_one_turn_each.Given as goal

abbrev pub invariant-loop-n : goal.invariant-loop-n
invariant-loop-n g l = record {
  count : length l.places.items ≡ length l.initial.places.items;
  some_have : l.some ≡ some_have_turns (take l.n l.places.items);
  ready : AllByRecursion IsReady l.places.items;
  places : (cells : CellsRec) (limit : Slot) → ArePlaces cells limit l.initial.places.items → ArePlaces cells limit l.places.items;
}
