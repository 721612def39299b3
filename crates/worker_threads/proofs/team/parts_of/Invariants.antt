use Rattle.std.proofs.Common.{◌≡◌, ◌+◌, length}
use Rattle.std.specs.Vec.Iter.{into_iter_items, into_iter_len}
use Rattle.xs_base.specs.Numbers.{Slot}
use Rattle.plan_cells.specs.Ends.{CellsRec}
use Rattle.worker_threads.specs.Team.{AllFrom, AreLeft, IsLeft, HasFinished}
use Rattle.worker_threads.proofs.team.parts_of.Given as goal

abbrev pub invariant-loop-left : goal.invariant-loop-left
invariant-loop-left l = record {
  count : length l.parts.items + into_iter_len l.left-iterator ≡ length l.fn.all.items;
  rest : (cells : CellsRec) (limit : Slot) → AreLeft cells limit l.fn.all.items → AllFrom (length l.parts.items) (IsLeft cells limit) (into_iter_items l.left-iterator);
  parts : (cells : CellsRec) (limit : Slot) → AreLeft cells limit l.fn.all.items → AllFrom 0 (HasFinished cells limit) l.parts.items;
}
