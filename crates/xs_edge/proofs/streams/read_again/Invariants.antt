use Rattle.std.proofs.Common.{◌≡◌, length}
use Rattle.std.specs.Io.KnownBytes.{Keeps}
use Rattle.xs_edge.specs.Calls.{Interruptions}
use Rattle.xs_edge.proofs.streams.read_again.Given as goal

abbrev pub invariant-loop-turn : goal.invariant-loop-turn
invariant-loop-turn g l =
    (length l.buf ≡ length l.initial.buf)
    × Keeps (g.R.Read.remaining l.initial.from) (g.R.Read.remaining l.from)
    × Interruptions g.R.FollowedRead.reads (length l.buf) l._turn l.initial.from l.from
