use Rattle.std.proofs.Common.{◌≡◌, ◌≤◌, ◌-◌, vec_len}
use Rattle.std.specs.Io.KnownBytes.{Consumes}
use Rattle.program_calls.proofs.RowsOfReads.{Reading}
use Rattle.program_calls.proofs.input.read_through.Given as goal

abbrev pub invariant-loop-bytes : goal.invariant-loop-bytes
invariant-loop-bytes g l =
    (vec_len l.bytes ≤ l.most)
    × Consumes (g.S.Source.left l.fn.source) (g.S.Source.left l.source) l.bytes.items
    × (g.S.Source.faults l.source ≡ g.S.Source.faults l.fn.source)
    × Reading g.S.Source.read_gives l.most (vec_len l.bytes) l.fn.source l.source

abbrev pub decreases-loop-bytes : goal.decreases-loop-bytes
decreases-loop-bytes g l = l.most - vec_len l.bytes
