use Rattle.std.proofs.Common.{sym, ap, ◌∙◌, subst}
use Rattle.sys_plan.specs.Plan.{PlanRec}
use Rattle.plan_cells.specs.Ends.{CellsRec, AreEnds}
use Rattle.plan_cells.specs.Inside.{cells_of}
use Rattle.plan_cells.proofs.cells.PlanCells.logs.Goals as goal

pub logs_of-requires-clause-ends : goal.logs_of-requires-clause-ends
logs_of-requires-clause-ends c n e h =
    let cells = c.self.inside.cells.items in
    subst (λ (p : PlanRec). AreEnds (cells_of p cells) n e) (sym c.deref.ensures)
    (subst (λ (r : CellsRec). AreEnds r n e) (sym c.self.view_is) (c.requires.ends n e h))

pub returns-clause-own : goal.returns-clause-own
returns-clause-own c =
    let same = c.deref.ensures ∙ ap (λ (r : CellsRec). r.plan) c.self.view_is in
    rw (← same) c.logs_of.ensures.own
