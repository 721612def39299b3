use Rattle.std.proofs.Common.{ap, sym, ◌∙◌}
use Rattle.system_model.specs.System.{edition_given, node_plans}
use Rattle.system_text.proofs.Plans.{plans_next, plans_refused, plans_done}
use Rattle.system_text.proofs.node_plans.node_plans.Goals as goal

pub returns-in-Err : goal.returns-in-Err
returns-in-Err c =
    plans_refused (Unit {0}) _ _ _ _ c.nodes-nodes.result.now c.loop-node.node-index _ _ _ _
    (c.loop-node.invariant ∙ ap (node_plans (edition_given c.args.frame.now.edition) c.args.frame.now.links c.args.frame.now.bits c.args.frame.now.sections) c.nodes-nodes.ensures) c.loop-node-test.true c.in-Err.ensures

pub loop-node-preserved : goal.loop-node-preserved
loop-node-preserved c =
    rw c.in_ok-push-in-Ok.ensures.items
    (plans_next _ _ _ _ c.nodes-nodes.result.now c.loop-node.node-index _ _ _ _ c.loop-node.invariant c.loop-node-test.true c.in-Ok.ensures)

pub returns : goal.returns
returns c =
    ap (node_plans (edition_given c.args.frame.now.edition) c.args.frame.now.links c.args.frame.now.bits c.args.frame.now.sections) (sym c.nodes-nodes.ensures)
    ∙ plans_done _ _ _ _ c.nodes-nodes.result.now c.loop-node.node-index _ _ c.loop-node.invariant c.loop-node-test.false
