use Rattle.std.proofs.Common.{◌≡◌, get_or, sym, ◌∙◌, ap, arith}
use Rattle.std.specs.Prelude.{◌==◌}
use Rattle.std.proofs.lemmas.List.Sums.{position_or_len_is}
use Rattle.pin_scripts.specs.Facts.{NodeChangesRec, node_without_lines}
use Rattle.pin_scripts.proofs.node_changes.place_of.Goals as goal

pub returns-else-not-is_numbered-clause-value : goal.returns-else-not-is_numbered-clause-value
returns-else-not-is_numbered-clause-value c =
    let nodes = c.args.nodes.now in
    let place = c.loop-place.place in
    let node = c.index-nodes-place.result in
    let item : node ≡ get_or nodes place node = cc in
    sym (position_or_len_is (λ (n : NodeChangesRec). n.number == c.args.number) nodes place node c.loop-place.invariant.within (λ k l. c.loop-place.invariant.before k node l)
    (λ l. ap (λ (n : NodeChangesRec). n.number == c.args.number) (sym item) ∙ cc))

pub returns-after-loop-place-clause-value : goal.returns-after-loop-place-clause-value
returns-after-loop-place-clause-value c =
    let d = node_without_lines 0 in
    sym (position_or_len_is (λ (n : NodeChangesRec). n.number == c.args.number) c.args.nodes.now c.loop-place.place d c.loop-place.invariant.within (λ k l. c.loop-place.invariant.before k d l) (λ l. absurd (omega (arith, l))))
