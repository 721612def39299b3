use Rattle.std.proofs.Common.{◌≡◌, ℕ, suc, ◌+◌, ◌<◌, ◌++◌, Option, IfSome, List, length, take, ap, ◌∙◌, subst, arith, Vec, Global}
use Rattle.std.proofs.lemmas.List.{take_all}
use Rattle.xs_model.specs.Record.{CoreRec}
use Rattle.sys_plan.specs.declared.NodePlan.{NodePlan}
use Rattle.told_run.specs.Slots.{IsToldIn}
use Rattle.issue_model.specs.Seen.{node_after}
use Rattle.issue_model.specs.Issues.{nodes_lines}
use Rattle.issue_model.specs.Watch.{node_watched}
use Rattle.issue_text.specs.declared.words.Word.{Word}
use Rattle.issue_text.specs.Kept.{Adds}
use Rattle.issue_text.specs.NodeSlots.{numbers_of}
use Rattle.issue_text.proofs.Kept.{none-added, and-more}
use Rattle.issue_text.proofs.Nodes.{nodes-more}
use Rattle.issue_text.proofs.Changes.{node-is-watched}
use Rattle.issue_text.proofs.watch_run.add_watched.Goals as goal

pub loop-n-init : goal.loop-n-init
loop-n-init c = record { lines = λ addresses kept. none-added c.args.kept.now; count = omega arith }

pub loop-n-preserved : goal.loop-n-preserved
loop-n-preserved c = record {
  lines = λ addresses kept.
      let a = c.args in
      let n = c.loop-n.n in
      let plan = a.run.now.plan in
      let numbers = numbers_of a.sources.now in
      let lines = node_watched plan numbers addresses a.slot in
      let at = c.node_slot-at.result in
      let its = subst (λ (slot : Option ℕ). IfSome slot (λ s. IsToldIn plan s n c.told.result.now)) c.requires.told c.told.ensures.told in
      let next : suc n ≡ n + 1 = omega arith in
      let below : n < length plan.nodes = omega (arith, c.loop-n-test.true, c.nodes-n-end.ensures.count) in
      let words = c.deref.ensures.value ∙ ap (λ (v : Vec Word Global). v.items) c.index-words-n.is ∙ kept n c.index-words-n.result below in
      let after = ap (λ (core : CoreRec). core.memory) c.core.ensures.stands.stands.core ∙ ap (λ (s : ℕ). (node_after plan s n).core.memory) c.requires.passed in
      and-more a.kept.now c.loop-n.kept c.add_change.new.self _ _ _ (c.loop-n.invariant.lines addresses kept)
      (c.in_ok-add_change.ensures.lines addresses (node_after plan a.slot n).core.memory words)
      (ap (λ (t : List (List ℕ)). nodes_lines lines 0 (take n plan.nodes) ++ t)
      (node-is-watched plan numbers addresses a.slot n at c.told.result.now c.core.result.now.core.memory c.node_slot-at.ensures its after)
      ∙ nodes-more lines 0 n n plan.nodes at.node.now c.node_slot-at.ensures.node (omega arith)
      ∙ ap (λ k. nodes_lines lines 0 (take k plan.nodes)) next);
  count = omega (arith, c.in_ok-add_change.ensures.count, c.loop-n.invariant.count);
}

pub returns-clause-lines : goal.returns-clause-lines
returns-clause-lines c = λ addresses kept.
    let a = c.args in
    let plan = a.run.now.plan in
    let lines = node_watched plan (numbers_of a.sources.now) addresses a.slot in
    subst (λ (nodes : List NodePlan). Adds a.kept.now c.loop-n.kept (nodes_lines lines 0 nodes))
    (take_all c.loop-n.n plan.nodes (omega (arith, c.nodes-n-end.ensures.count, c.loop-n-test.false)))
    (c.loop-n.invariant.lines addresses kept)
