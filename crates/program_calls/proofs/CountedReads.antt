-- How often a source that counts its reads is read by reads in a row.
use Rattle.std.proofs.Common.{ℕ, suc, zero, ◌+◌, ◌-◌, ◌^◌, ◌≤◌, arith, ap, inl, inr}
use Rattle.std.proofs.lemmas.Bool.{cases_eq}
use Rattle.xs_edge.specs.Edge.{HasRisen}
use Rattle.xs_edge.specs.Stores.{Counting}
use Rattle.program_calls.specs.Counted.{CountsRead, ReadsAreCounted}
use Rattle.program_calls.specs.Reads.{TookReads, MaybeOneRead}

most_risen : (old new : ℕ) → HasRisen old new → new ≤ old + 1
most_risen old new h =
    elim (cases_eq old (2 ^ 64 - 1)) [
      | inl e ↦ omega (arith, h.stands e)
      | inr e ↦ omega (arith, h.rises e)
    ]

counted_row : (most n taken : ℕ) (from to : Counting) → TookReads CountsRead most n taken from to → to.reads ≤ from.reads + n
counted_row most zero taken from to (e, same) = omega (arith, ap (λ source. source.reads) same)
counted_row most (suc n) taken from to (before, mid, reads, count, some, e, (room, some_room, fits, within, read)) =
    omega (arith, counted_row most n before from mid reads, most_risen mid.reads to.reads read)

counted_last : (most taken : ℕ) (from to : Counting) → MaybeOneRead CountsRead most taken from to → to.reads ≤ from.reads + 1
counted_last most taken from to (inl same) = omega (arith, ap (λ source. source.reads) same)
counted_last most taken from to (inr (answered, (room, some_room, fits, within, read))) = most_risen from.reads to.reads read

pub counted_reads : ReadsAreCounted
counted_reads most from to (n, few, taken, mid, reads, last) =
    omega (arith, few, counted_row most n taken from mid reads, counted_last most taken mid to last)
