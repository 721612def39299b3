use Rattle.std.proofs.Common.{ℕ, ◌≡◌, zero, suc, List, [], ◌∷◌, None, get_or, length, sym, refl, ◌∙◌, arith}
use Rattle.std.specs.Prelude.{map}
use Rattle.std.proofs.lemmas.List.{ext_get_or, length-map}
use Rattle.core_step.specs.Network.{counts_with_gap}
use Rattle.core_step.proofs.network.links_with.Goals as goal

at_gap : (gaps : List ℕ) (i : ℕ) → get_or (map counts_with_gap gaps) i None ≡ counts_with_gap (get_or gaps i 0)
at_gap [] i = refl
at_gap (gap ∷ gaps) zero = refl
at_gap (gap ∷ gaps) (suc i) = at_gap gaps i

pub returns : goal.returns
returns c =
    let inv = c.loop-end.invariant in
    let eight : length c.args.gaps.now ≡ 8 = c.told-gaps in
    ext_get_or None c.loop-end.links (map counts_with_gap c.args.gaps.now) (inv.count ∙ sym (length-map c.args.gaps.now counts_with_gap ∙ eight))
    (λ i below. inv.done i (omega (arith, below, inv.count, c.loop-end-test.false)) ∙ sym (at_gap c.args.gaps.now i))
