use Rattle.std.proofs.Common.{sym, subst}
use Rattle.sys_plan.specs.Plan.{PlanRec, arcs}
use Rattle.plan_cells.specs.Inside.{AreDealt, cells_of}
use Rattle.plan_cells.proofs.Dealing.{new_ends}
use Rattle.plan_cells.proofs.cells.PlanCells.new.Goals as goal

pub returns-clause-ends : goal.returns-clause-ends
returns-clause-ends c =
    let cells = c.in_ok-cells.cells.items in
    let all = c.deal_all.new.all.items in
    new_ends (cells_of c.in_ok-plan.plan.value cells) all
    (subst (λ (p : PlanRec). AreDealt (cells_of p cells) (arcs p) all) (sym c.in_ok-plan.ensures) c.in_ok-cells.ensures.dealt)
