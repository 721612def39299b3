use Rattle.std.proofs.Common.{arith, refl, inr}
use Rattle.xs_edge.proofs.streams.write_again.Goals as goal

pub returns-clause-gives : goal.returns-clause-gives
returns-clause-gives g c =
    (c.loop-turn._turn, c.loop-turn.to, c.loop-turn.invariant.1, inr (omega (arith, c.loop-turn-test.false, c.loop-turn.auto._turn-end), refl, refl))
