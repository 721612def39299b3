use Rattle.std.specs.Io.KnownBytes.{Keeps}
use Rattle.xs_edge.specs.Calls.{Interruptions}
use Rattle.xs_edge.proofs.streams.write_again.Given as goal

abbrev pub invariant-loop-turn : goal.invariant-loop-turn
invariant-loop-turn g l =
    Keeps (g.W.Write.contents l.initial.to) (g.W.Write.contents l.to)
    × Interruptions g.W.FollowedWrite.writes l.piece l._turn l.initial.to l.to
