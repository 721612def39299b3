use Rattle.std.proofs.Common.{◌≡◌, length, ap, ◌∙◌, subst}
use Rattle.sys_plan.specs.Plan.{PlanRec, IsPlan}
use Rattle.node_runners.specs.Runner.{new_runner}
use Rattle.plan_lanes.specs.Lanes.{AllAt}
use Rattle.node_rounds.proofs.Fresh.{starts}
use Rattle.node_rounds.proofs.table.Table.new.Goals as goal

pub returns-clause-start : goal.returns-clause-start
returns-clause-start c =
    let plan = c.args.plan.now.value in
    let limit = c.args.limit in
    let runners = c.in_ok-runners.runners.items in
    let count = c.in_ok-runners.ensures.count ∙ ap (λ (p : PlanRec). length p.nodes) c.deref-2.ensures in
    let new = subst (λ (p : PlanRec). AllAt (λ n r. r ≡ new_runner p limit n) runners) c.deref-2.ensures c.in_ok-runners.ensures.start in
    starts plan limit runners c.in_ok-seats.seats.items c.in_ok-lanes.lanes.items (subst IsPlan c.deref.ensures c.keeps.ensures.plan) c.ranges.limit.fits count new c.in_ok-seats.ensures.seats
    c.in_ok-lanes.ensures.count c.in_ok-lanes.ensures.start
