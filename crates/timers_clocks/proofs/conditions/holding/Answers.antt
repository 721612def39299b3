use Rattle.std.proofs.Common.{ap, eqb, inl, inr, arith}
use Rattle.std.proofs.lemmas.Bool.{cases_lt}
use Rattle.std.proofs.lemmas.Nat.Bits.{bit_at_above}
use Rattle.timers_clocks.proofs.conditions.holding.Goals as goal

pub returns-clause-none_above : goal.returns-clause-none_above
returns-clause-none_above c n above =
    elim (cases_lt n 32) [
      | inl small ↦ c.loop-n.invariant.1 n (omega (arith, above)) small
      | inr large ↦ ap (λ b. eqb b 1) (bit_at_above c.loop-n.mask 32 n c.loop-n.invariant.2 large)
    ]
