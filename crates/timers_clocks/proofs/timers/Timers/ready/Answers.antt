use Rattle.std.proofs.Common.{ap, eqb}
use Rattle.std.proofs.lemmas.Nat.Bits.{bit_at_ones_above}
use Rattle.timers_clocks.proofs.timers.Timers.ready.Goals as goal

pub returns-then-self-eq0-clause-none_above : goal.returns-then-self-eq0-clause-none_above
returns-then-self-eq0-clause-none_above c n above = ap (λ b. eqb b 1) (bit_at_ones_above 10 n above)
