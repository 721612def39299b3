use Rattle.std.proofs.Common.{◌≡◌, ℕ, suc, ◌+◌, ◌++◌, Option, IfSome, List, take, ap, ◌∙◌, subst, arith}
use Rattle.told_run.specs.Slots.{IsToldIn}
use Rattle.issue_model.specs.Issues.{node_lines, nodes_lines}
use Rattle.issue_text.specs.NodeSlots.{numbers_of}
use Rattle.issue_text.proofs.Kept.{and-more}
use Rattle.issue_text.proofs.Nodes.{nodes-more, node-told}
use Rattle.issue_text.proofs.issue_run.add_lines.Goals as goal

pub loop-n-preserved : goal.loop-n-preserved
loop-n-preserved c = record {
  lines =
      let a = c.args in
      let n = c.loop-n.n in
      let plan = a.run.now.plan in
      let numbers = numbers_of a.sources.now in
      let lines = node_lines plan numbers a.slot in
      let at = c.node_slot-at.result in
      let its = subst (λ (slot : Option ℕ). IfSome slot (λ s. IsToldIn plan s n c.told.result.now)) c.requires.told c.told.ensures.told in
      let next : suc n ≡ n + 1 = omega arith in
      and-more a.kept.now c.loop-n.kept c.add_issue.new.self _ _ _ c.loop-n.invariant.lines c.in_ok-add_issue.ensures.lines
      (ap (λ (t : List (List ℕ)). nodes_lines lines 0 (take n plan.nodes) ++ t) (node-told plan numbers a.slot n at c.told.result.now c.node_slot-at.ensures its)
      ∙ nodes-more lines 0 n n plan.nodes at.node.now c.node_slot-at.ensures.node (omega arith)
      ∙ ap (λ k. nodes_lines lines 0 (take k plan.nodes)) next);
  count = omega (arith, c.in_ok-add_issue.ensures.count, c.loop-n.invariant.count);
}
