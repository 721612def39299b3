use Rattle.std.proofs.Common.{List, length, map, slice_get, sym, ap, ◌∙◌, subst}
use Rattle.std.specs.Prelude.{All}
use Rattle.std.proofs.lemmas.List.{length-map}
use Rattle.std.proofs.lemmas.List.Elements.{All-from_recursion}
use Rattle.sys_plan.specs.Plan.{PlanRec, arc_count}
use Rattle.plan_cells.specs.declared.ends.Ends.{Ends}
use Rattle.node_runners.specs.Runner.{RunnerRec}
use Rattle.finished_runs.specs.Limit.{Totals, HasRun, HasSent}
use Rattle.core_workers.specs.Worker.{HasSteppedBusy}
use Rattle.core_workers.specs.Gathered.{sent_in}
use Rattle.core_workers.proofs.Gathering.{runner_of, all_busy, each_node, all_nodes, are_ends, each_total}
use Rattle.core_workers.proofs.gather.gather.Goals as goal

pub logs-requires-clause-ends : goal.logs-requires-clause-ends
logs-requires-clause-ends c n ends here =
    let apart = c.in_ok-runners.ensures in
    are_ends c.args.cells c.args.limit c.args.parts.items c.requires.nodes apart.workers c.requires.at_limit n ends
    (ap (λ (all : List Ends). slice_get all n) (sym apart.ends) ∙ here)

pub of_runners-run-requires-clause-nodes : goal.of_runners-run-requires-clause-nodes
of_runners-run-requires-clause-nodes c =
    let apart = c.in_ok-runners.ensures in
    let plan_is = c.of-plan.ensures ∙ c.plan.ensures.value in
    ap (λ (all : List RunnerRec). length all) apart.runners
    ∙ all_nodes c.args.cells c.args.limit c.args.parts.items c.requires.nodes apart.workers c.requires.at_limit
    ∙ ap (λ (p : PlanRec). length p.nodes) (sym plan_is)

pub of_runners-run-requires-clause-at_limit : goal.of_runners-run-requires-clause-at_limit
of_runners-run-requires-clause-at_limit c n runner here =
    let apart = c.in_ok-runners.ensures in
    let plan_is = c.of-plan.ensures ∙ c.plan.ensures.value in
    subst (λ (p : PlanRec). HasRun p c.args.limit n runner) (sym plan_is)
    (each_node c.args.cells c.args.limit c.args.parts.items c.requires.nodes apart.workers c.requires.at_limit n runner
    (ap (λ (all : List RunnerRec). slice_get all n) (sym apart.runners) ∙ here))

pub of_runners-run-requires-clause-links : goal.of_runners-run-requires-clause-links
of_runners-run-requires-clause-links c =
    let plan_is = c.of-plan.ensures ∙ c.plan.ensures.value in
    let logs = c.in_ok-logs.logs.items in
    ap (λ (all : List Totals). length all) c.in_ok-totals.ensures
    ∙ length-map logs sent_in
    ∙ c.in_ok-logs.ensures.links
    ∙ ap (λ (p : PlanRec). arc_count p) (sym plan_is)

pub of_runners-run-requires-clause-sent : goal.of_runners-run-requires-clause-sent
of_runners-run-requires-clause-sent c link sent here =
    let apart = c.in_ok-runners.ensures in
    let plan_is = c.of-plan.ensures ∙ c.plan.ensures.value in
    let logs = c.in_ok-logs.logs.items in
    subst (λ (p : PlanRec). HasSent p c.args.limit link sent) (sym plan_is)
    (each_total c.args.cells c.args.limit c.args.parts.items c.requires.nodes apart.workers c.requires.at_limit c.requires.plan logs c.in_ok-logs.ensures.links c.in_ok-logs.ensures.own
    (λ n ends at. c.in_ok-logs.ensures.left n ends (ap (λ (e : List Ends). slice_get e n) apart.ends ∙ at))
    link sent (ap (λ (all : List Totals). slice_get all link) (sym c.in_ok-totals.ensures) ∙ here))

pub of_runners-run-requires-clause-busy : goal.of_runners-run-requires-clause-busy
of_runners-run-requires-clause-busy c =
    let apart = c.in_ok-runners.ensures in
    subst (All HasSteppedBusy) (sym apart.runners) (All-from_recursion HasSteppedBusy (map runner_of c.args.parts.items) (all_busy c.args.parts.items apart.workers))
