use Rattle.std.specs.List.{AllByRecursion}
use Rattle.xs_base.specs.Numbers.{Slot}
use Rattle.plan_cells.specs.Ends.{CellsRec}
use Rattle.worker_threads.specs.Team.{ArePlaces, IsReady}
use Rattle.worker_threads.proofs.team.take_turns.Given as goal

abbrev pub invariant-loop : goal.invariant-loop
invariant-loop g l = record {
  ready : AllByRecursion IsReady l.places.items;
  places : (cells : CellsRec) (limit : Slot) → ArePlaces cells limit l.initial.places.items → ArePlaces cells limit l.places.items;
}
