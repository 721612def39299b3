use Rattle.std.proofs.Common.{arith, refl, inr}
use Rattle.xs_edge.proofs.streams.read_again.Goals as goal

pub returns-clause-gives : goal.returns-clause-gives
returns-clause-gives g c =
    (c.loop-turn._turn, c.loop-turn.from, c.loop-turn.invariant.2, inr (omega (arith, c.loop-turn-test.false, c.loop-turn.auto._turn-end), refl, refl))
