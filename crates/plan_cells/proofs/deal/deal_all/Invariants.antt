use Rattle.std.proofs.Common.{◌≡◌, Some, length, take, slice_get}
use Rattle.xs_base.specs.Numbers.{LinkNumber}
use Rattle.sys_plan.specs.Plan.{PlanRec, arcs}
use Rattle.log_cells.specs.Ends.{CellRec}
use Rattle.plan_cells.specs.Inside.{IsCellOf, AreDealt, cells_of}
use Rattle.plan_cells.proofs.deal.deal_all.Given as goal

-- the cells of the first arcs are there, and their ends are dealt
abbrev pub invariant-loop-link : goal.invariant-loop-link
invariant-loop-link l = record {
  count : length l.cells.items ≡ l.link;
  each : (k : LinkNumber) (cell : CellRec PlanRec) → slice_get l.cells.items k ≡ Some cell → IsCellOf l.plan.value k cell;
  nodes : length l.all.items ≡ length l.plan.value.nodes;
  dealt : AreDealt (cells_of l.plan.value l.cells.items) (take l.link (arcs l.plan.value)) l.all.items;
}
