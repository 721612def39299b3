use Rattle.std.proofs.Common.{◌∙◌, ◌-◌, sym, arith}
use Rattle.std.proofs.lemmas.Bool.{eq-eqb, ne_eqb}
use Rattle.route_ranks.proofs.Differences.{difference_here, difference_below, no_difference}
use Rattle.route_ranks.proofs.ways.first_difference.Goals as goal

pub returns-then-bit_at-clause-value : goal.returns-then-bit_at-clause-value
returns-then-bit_at-clause-value c =
    let bit = c.loop-bit.bit in
    sym
    (c.loop-bit.invariant
    ∙ difference_here bit (bit - 1) c.args.a c.args.b (omega arith)
    (ne_eqb _ _ (λ same. c.if-bit_at.true (c.bit_at.ensures.value ∙ same ∙ sym c.bit_at-in-loop-bit.ensures.value))))

pub loop-bit-preserved : goal.loop-bit-preserved
loop-bit-preserved c =
    let bit = c.loop-bit.bit in
    c.loop-bit.invariant
    ∙ difference_below bit (bit - 1) c.args.a c.args.b (omega arith)
    (eq-eqb _ _ (sym c.bit_at.ensures.value ∙ c.if-bit_at.false ∙ c.bit_at-in-loop-bit.ensures.value))

pub returns-clause-value : goal.returns-clause-value
returns-clause-value c = sym (c.loop-bit.invariant ∙ no_difference c.loop-bit.bit c.args.a c.args.b (omega arith))
