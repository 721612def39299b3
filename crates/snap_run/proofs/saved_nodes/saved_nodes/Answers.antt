use Rattle.std.proofs.Common.{◌≡◌, ◌<◌, ◌≤◌, [], ◌∷◌, ◌++◌, length, sym, ap, ◌∙◌, arith}
use Rattle.std.proofs.lemmas.Grind.{common_steps}
use Rattle.snap_run.proofs.Saved.{nodes_more, nodes_whole}
use Rattle.snap_run.proofs.saved_nodes.saved_nodes.Goals as goal

pub loop-n-preserved : goal.loop-n-preserved
loop-n-preserved c =
    let plan = c.args.plan.now in
    let slot = c.args.machine.now.now in
    let n = c.loop-n.n in
    let inside : n < length plan.nodes = omega (arith, ap length c.nodes-n-end.ensures.value) in
    let pushed : c.push.new.self.items ≡ c.loop-n.nodes.items ++ c.in_ok-node.node ∷ [] = grind (arith, common_steps) in
    record { saved = pushed ∙ (λ i. c.loop-n.invariant.saved i ++ c.in_ok-node.ensures.saved i ∷ []) ∙ sym (nodes_more plan slot n inside) }

pub returns : goal.returns
returns c =
    let plan = c.args.plan.now in
    let all : length plan.nodes ≤ c.loop-n.n = omega (arith, ap length c.nodes-n-end.ensures.value) in
    record { saved = c.loop-n.invariant.saved ∙ nodes_whole plan c.args.machine.now.now c.loop-n.n all }
