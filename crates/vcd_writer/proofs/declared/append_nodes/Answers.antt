use Rattle.std.proofs.Common.{◌≡◌, ◌<◌, List, length, get_or, ap, sym, ◌∙◌, arith}
use Rattle.std.proofs.lemmas.List.{get_or-map, length-map}
use Rattle.sys_plan.specs.declared.NodePlan.{NodePlan}
use Rattle.sys_plan.specs.Plan.{node_numbers}
use Rattle.vcd_writer.proofs.Scopes.{nodes_more}
use Rattle.vcd_writer.proofs.declared.append_nodes.Goals as goal

pub loop-node-preserved : goal.loop-node-preserved
loop-node-preserved c =
    let plan = c.args.plan.now in
    let n = c.loop-node.node in
    let node = c.index-nodes-node.result in
    let value = c.nodes-nodes.ensures.value in
    let inside : n < length plan.nodes = omega (arith, ap length value, c.loop-node-test.true) in
    let number : get_or (node_numbers plan) n 0 ≡ (get_or c.nodes-nodes.result.now n node).number =
    get_or-map (λ (x : NodePlan). x.number) plan.nodes n node 0 inside ∙ ap (λ (xs : List NodePlan). (get_or xs n node).number) (sym value) in
    nodes_more (node_numbers plan) n (get_or c.nodes-nodes.result.now n node).number c.args.out.now _ _
    (omega (arith, length-map plan.nodes (λ (x : NodePlan). x.number), inside)) number c.loop-node.invariant c.in_ok-append_node.ensures
