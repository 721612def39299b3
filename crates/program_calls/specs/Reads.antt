-- Reads of a source in a row.
use Prim.Native.Nat.{zero, suc}
use Rattle.std.specs.Prelude.{ℕ, ◌≡◌, ◌<◌, ◌≤◌, ◌+◌, ◌⊎◌, Result, Ok, IfOk}
use Rattle.xs_edge.specs.declared.Failed.{Failed}

-- what one read of a source into a buffer of so many bytes may answer and leave behind
abbrev pub ReadGives : Type 0 → Type 1
ReadGives S = S → ℕ → Result ℕ Failed → S → Type 0

-- one read, after so many bytes were taken: its buffer isn't empty and has no room past `most` bytes in all, and it takes no
-- more than fit
abbrev pub OneRead : {S : Type 0} → ReadGives S → ℕ → ℕ → S → Result ℕ Failed → S → Type 0
OneRead gives most taken from answered to =
    (room : ℕ) × (0 < room) × (taken + room ≤ most) × IfOk answered (λ count. count ≤ room) × gives from room answered to

-- so many reads in a row, each of which took at least one byte, took so many bytes in all
abbrev pub TookReads : {S : Type 0} → ReadGives S → ℕ → ℕ → ℕ → S → S → Type 0
TookReads gives most zero taken from to = (taken ≡ 0) × (from ≡ to)
TookReads {S} gives most (suc n) taken from to =
    (before : ℕ) × (mid : S) × TookReads gives most n before from mid
    × (count : ℕ) × (0 < count) × (taken ≡ before + count) × OneRead gives most before mid (Ok count) to

-- one more read that answered whatever it did, or none
abbrev pub MaybeOneRead : {S : Type 0} → ReadGives S → ℕ → ℕ → S → S → Type 0
MaybeOneRead gives most taken from to = (from ≡ to) ⊎ ((answered : Result ℕ Failed) × OneRead gives most taken from answered to)

-- At most `most` reads in a row lead from one state of the source to the other, and each but the last took at least one
-- byte. None has an empty buffer, and none is made once `most` bytes are taken.
abbrev pub ReadsAtMost : {S : Type 0} → ReadGives S → ℕ → S → S → Type 0
ReadsAtMost {S} gives most from to =
    (n : ℕ) × (n < most) × (taken : ℕ) × (mid : S) × TookReads gives most n taken from mid × MaybeOneRead gives most taken mid to
