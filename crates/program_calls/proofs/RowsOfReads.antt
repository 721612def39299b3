-- Reads in a row, and one more.
use Rattle.std.proofs.Common.{ℕ, zero, suc, ◌+◌, ◌<◌, ◌≤◌, ◌≡◌, Result, Ok, arith, refl, inl, inr}
use Rattle.xs_edge.specs.declared.Failed.{Failed}
use Rattle.program_calls.specs.Reads.{ReadGives, OneRead, TookReads, ReadsAtMost}

-- reads in a row, each of which took at least one byte, took so many bytes in all
abbrev pub Reading : {S : Type 0} → ReadGives S → ℕ → ℕ → S → S → Type 0
Reading gives most taken from to = (n : ℕ) × (n ≤ taken) × TookReads gives most n taken from to

pub Reading-start : {S : Type 0} (gives : ReadGives S) (most : ℕ) (from : S) → Reading gives most 0 from from
Reading-start gives most from = (0, omega arith, (refl, refl))

pub Reading-more : {S : Type 0} (gives : ReadGives S) (most taken count longer : ℕ) (from mid to : S)
    → Reading gives most taken from mid → 0 < count → longer ≡ taken + count → OneRead gives most taken mid (Ok count) to → Reading gives most longer from to
Reading-more gives most taken count longer from mid to (n, few, reads) some e read =
    (suc n, omega arith, (taken, mid, reads, count, some, e, read))

-- no more reads: the last that took bytes is the one more
pub ReadsAtMost-end : {S : Type 0} (gives : ReadGives S) (most taken : ℕ) (from to : S) → Reading gives most taken from to → taken ≤ most → 0 < most → ReadsAtMost gives most from to
ReadsAtMost-end gives most taken from to (zero, few, reads) h some = (zero, some, taken, to, reads, inl refl)
ReadsAtMost-end gives most taken from to (suc n, few, (before, mid, reads, count, took, e, read)) h some =
    (n, omega (arith, few, h), before, mid, reads, inr (Ok count, read))

-- one more read
pub ReadsAtMost-last : {S : Type 0} (gives : ReadGives S) (most taken : ℕ) (from mid to : S) (answered : Result ℕ Failed)
    → Reading gives most taken from mid → OneRead gives most taken mid answered to → ReadsAtMost gives most from to
ReadsAtMost-last gives most taken from mid to answered (n, few, reads) (room, some, fits, within, read) =
    (n, omega (arith, few, some, fits), taken, mid, reads, inr (answered, (room, some, fits, within, read)))
