use Rattle.std.proofs.Common.{◌≡◌, length, sym, ap, ◌∙◌, subst}
use Rattle.xs_base.specs.Numbers.{Slot}
use Rattle.sys_plan.specs.Plan.{PlanRec}
use Rattle.node_runners.specs.Runner.{new_runner}
use Rattle.plan_lanes.specs.Lanes.{AllAt, AreAt}
use Rattle.plan_lanes.proofs.Starts.{starts_at, starts_as}
use Rattle.run_drive.proofs.stage.Stage.new.Goals as goal

pub returns-clause-at : goal.returns-clause-at
returns-clause-at c =
    let plan = c.args.plan.now.value in
    let limit = c.args.limit in
    let runners = c.in_ok-runners.runners.items in
    let lanes = c.in_ok-lanes.lanes.items in
    let count = c.in_ok-runners.ensures.count ∙ ap (λ (p : PlanRec). length p.nodes) c.deref.ensures in
    let start = subst (λ (p : PlanRec). AllAt (λ n r. r ≡ new_runner p limit n) runners) c.deref.ensures c.in_ok-runners.ensures.start in
    subst (λ (slots : Slot). AreAt plan slots runners lanes) (sym c.of.ensures)
    (starts_at plan limit runners lanes count start c.in_ok-lanes.ensures.count c.in_ok-lanes.ensures.start)

pub returns-clause-start : goal.returns-clause-start
returns-clause-start c =
    let plan = c.args.plan.now.value in
    let limit = c.args.limit in
    let runners = c.in_ok-runners.runners.items in
    let count = c.in_ok-runners.ensures.count ∙ ap (λ (p : PlanRec). length p.nodes) c.deref.ensures in
    let start = subst (λ (p : PlanRec). AllAt (λ n r. r ≡ new_runner p limit n) runners) c.deref.ensures c.in_ok-runners.ensures.start in
    starts_as plan limit runners c.in_ok-lanes.lanes.items count start c.in_ok-lanes.ensures.count c.in_ok-lanes.ensures.start
