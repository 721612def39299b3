use Rattle.std.proofs.Common.{◌≡◌, Ok, Err, length, ap, ◌∙◌}
use Rattle.std.specs.Prelude.{Result, IfOk}
use Rattle.sys_plan.specs.Plan.{PlanRec}
use Rattle.worker_threads.specs.Team.{HasFinished}
use Rattle.worker_threads.proofs.Nodes.{left_at}
use Rattle.worker_threads.proofs.Teams.{at_each}
use Rattle.worker_threads.proofs.team.run_workers_where.Goals as goal

if_ok : {T E : Type 0} (P Q : T → Type 0) (r : Result T E) → ((x : T) → P x → Q x) → IfOk r P → IfOk r Q
if_ok P Q (Ok x) gives is = gives x is
if_ok P Q (Err e) gives is = tt

pub returns-clause-nodes : goal.returns-clause-nodes
returns-clause-nodes g c =
    if_ok _ _ c.parts_of.result (λ parts are. are.count ∙ ap (λ (p : PlanRec). length p.nodes) c.requires.plan)
    (c.parts_of.ensures.parts c.args.lanes.now c.args.limit c.in_ok-all.ensures.1)

pub returns-clause-at_limit : goal.returns-clause-at_limit
returns-clause-at_limit g c =
    if_ok _ _ c.parts_of.result (λ parts are n part is. left_at c.args.lanes.now c.args.limit n part (at_each (HasFinished c.args.lanes.now c.args.limit) parts.items n part are.each is))
    (c.parts_of.ensures.parts c.args.lanes.now c.args.limit c.in_ok-all.ensures.1)

pub returns-clause-over : goal.returns-clause-over
returns-clause-over g c =
    if_ok _ _ c.parts_of.result (λ parts are n part is. (at_each (HasFinished c.args.lanes.now c.args.limit) parts.items n part are.each is).ends)
    (c.parts_of.ensures.parts c.args.lanes.now c.args.limit c.in_ok-all.ensures.1)
