use Rattle.std.proofs.Common.{◌≡◌, ◌*◌, ◌++◌, List, length, ap, sym, ◌∙◌, arith, refl}
use Rattle.sys_plan.specs.declared.LinkPlan.{LinkPlan}
use Rattle.sys_plan.specs.declared.NodePlan.{NodePlan}
use Rattle.sys_plan.specs.Plan.{PlanRec, link_arcs}
use Rattle.trace_model.specs.Trace.{by_position, traffic_at}
use Rattle.sys_plan.proofs.Told.{arcs-count}
use Rattle.trace_text.proofs.ByPosition.{arcs-length, link_more, link_done}
use Rattle.trace_text.proofs.whole_trace.append_links.Goals as goal

pub append_traffic_at-requires-clause-number : goal.append_traffic_at-requires-clause-number
append_traffic_at-requires-clause-number g c =
    let plan = g.R.EndedRun.plan c.args.run.now in
    let links = c.links-links.result.now in
    let count : length (link_arcs plan.links) ≡ 2 * length links =
    arcs-length _ ∙ ap (λ (ls : List LinkPlan). 2 * length ls) (ap (λ (p : PlanRec). p.links) c.requires.plan ∙ sym c.links-links.ensures.value) in
    omega (arith, count, arcs-count plan)

pub loop-k-preserved : goal.loop-k-preserved
loop-k-preserved g c =
    let end = g.R.EndedRun.end c.args.run.now in
    link_more (traffic_at c.nodes-nodes.result.now end) c.loop-k.k c.links-links.result.now _ _ _ _ _ (omega arith) refl c.in_ok-append_traffic_at.ensures c.loop-k.invariant

pub returns : goal.returns
returns g c =
    let end = g.R.EndedRun.end c.args.run.now in
    let out = c.args.out.now in
    let links = c.links-links.result.now in
    link_done (traffic_at c.nodes-nodes.result.now end) c.loop-k.k links _ _ (omega arith) c.loop-k.invariant
    ∙ (ap (λ (ns : List NodePlan). out ++ by_position (traffic_at ns end) 0 (link_arcs links)) c.nodes-nodes.ensures.value
    ∙ ap (λ (ls : List LinkPlan). out ++ by_position (traffic_at c.args.plan.now.nodes end) 0 (link_arcs ls)) c.links-links.ensures.value)
