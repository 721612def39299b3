use Rattle.xs_base.specs.Numbers.{Slot, Position}
use Rattle.plan_cells.specs.Ends.{CellsRec}
use Rattle.worker_threads.specs.Team.{IsHere, MayGoOn}
use Rattle.worker_threads.proofs.here.Here.finish.Given as goal

abbrev pub invariant-loop : goal.invariant-loop
invariant-loop g l = record {
  ready : MayGoOn l.here.worker l.here.ended;
  here : (cells : CellsRec) (limit : Slot) (n : Position) → IsHere cells limit n l.fn.self → IsHere cells limit n l.here;
}
