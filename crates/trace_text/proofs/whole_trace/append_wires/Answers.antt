use Rattle.std.proofs.Common.{◌≡◌, ◌*◌, ◌++◌, ℕ, List, length, ap, sym, ◌∙◌, arith, refl}
use Rattle.sys_plan.specs.declared.LinkPlan.{LinkPlan}
use Rattle.sys_plan.specs.declared.NodePlan.{NodePlan}
use Rattle.sys_plan.specs.declared.WirePlan.{WirePlan}
use Rattle.sys_plan.specs.Plan.{PlanRec, link_arcs}
use Rattle.trace_model.specs.Trace.{by_position, changes_at}
use Rattle.sys_plan.proofs.Told.{arcs-count}
use Rattle.trace_text.proofs.ByPosition.{arcs-length, position_more, position_done}
use Rattle.trace_text.proofs.whole_trace.append_wires.Goals as goal

-- the arcs of links come before those of wires
before : (plan : PlanRec) (links : List LinkPlan) (first : ℕ) → links ≡ plan.links → first ≡ 2 * length links → first ≡ length (link_arcs plan.links)
before plan links first e f = f ∙ (ap (λ (ls : List LinkPlan). 2 * length ls) e ∙ sym (arcs-length plan.links))

pub append_changes_at-requires-clause-number : goal.append_changes_at-requires-clause-number
append_changes_at-requires-clause-number g c =
    let plan = g.R.EndedRun.plan c.args.run.now in
    let links : length (link_arcs plan.links) ≡ 2 * length c.links-links.result.now =
    arcs-length _ ∙ ap (λ (ls : List LinkPlan). 2 * length ls) (ap (λ (p : PlanRec). p.links) c.requires.plan ∙ sym c.links-links.ensures.value) in
    let wires : length plan.wires ≡ length c.wires-wires.result.now =
    ap (λ (ws : List WirePlan). length ws) (ap (λ (p : PlanRec). p.wires) c.requires.plan ∙ sym c.wires-wires.ensures.value) in
    omega (arith, links, wires, arcs-count plan)

pub loop-w-preserved : goal.loop-w-preserved
loop-w-preserved g c =
    let end = g.R.EndedRun.end c.args.run.now in
    position_more (changes_at c.nodes-nodes.result.now _ end) c.loop-w.w c.wires-wires.result.now _ _ _ _ _ (omega arith) refl c.in_ok-append_changes_at.ensures c.loop-w.invariant

pub returns : goal.returns
returns g c =
    let end = g.R.EndedRun.end c.args.run.now in
    let out = c.args.out.now in
    let wires = c.wires-wires.result.now in
    let plan = c.args.plan.now in
    position_done (changes_at c.nodes-nodes.result.now _ end) c.loop-w.w wires _ _ (omega arith) c.loop-w.invariant
    ∙ (ap (λ (n : ℕ). out ++ by_position (changes_at c.nodes-nodes.result.now n end) 0 wires) (before plan c.links-links.result.now _ c.links-links.ensures.value (omega arith))
    ∙ (ap (λ (ns : List NodePlan). out ++ by_position (changes_at ns (length (link_arcs plan.links)) end) 0 wires) c.nodes-nodes.ensures.value
    ∙ ap (λ (ws : List WirePlan). out ++ by_position (changes_at plan.nodes (length (link_arcs plan.links)) end) 0 ws) c.wires-wires.ensures.value))
