use Rattle.std.proofs.Common.{◌≡◌, None, length, sym, ◌∙◌, arith}
use Rattle.std.proofs.lemmas.List.{ext_get_or}
use Rattle.core_step.specs.Network.{row_by}
use Rattle.core_step.proofs.Said.{row_at, length-row}
use Rattle.core_step.proofs.network.links_of.Goals as goal

pub returns : goal.returns
returns c =
    let inv = c.loop-end.invariant in
    let gaps = c.args.gaps.now in
    let ends = c.args.ends.now in
    let many : length gaps ≡ 8 = c.told-gaps in
    let there : length ends ≡ 8 = omega arith in
    let same : length gaps ≡ length ends = omega (arith, many, there) in
    record {
      value = ext_get_or None c.loop-end.links (row_by gaps ends) (inv.count ∙ sym many ∙ sym (length-row gaps ends same))
          (λ i below. inv.done i (omega (arith, below, inv.count, c.loop-end-test.false))
          ∙ sym (row_at gaps ends i (omega (arith, below, inv.count, many)) (omega (arith, below, inv.count, many, same))));
      count = there;
    }
