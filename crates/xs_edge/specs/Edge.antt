-- How a count of faults rises, and what a write that is not whole adds to a sink.
use Rattle.std.specs.Prelude.{◌≡◌, ◌≢◌, ℕ, ◌+◌, ◌-◌, ◌^◌, List, ◌++◌, Option}
use Rattle.std.specs.Io.KnownBytes.{Appends}

-- the count rose by one, or it stands at its last value, 2^64 - 1
pub record HasRisen (old new : ℕ) : Type 0 where
  pub rises : old ≢ 2 ^ 64 - 1 → new ≡ old + 1
  pub stands : old ≡ 2 ^ 64 - 1 → new ≡ old

-- a front of the piece was added at the end of what was written: none of it, all of it or some
abbrev pub AppendsPart : Option (List ℕ) → Option (List ℕ) → List ℕ → Type 0
AppendsPart old new piece = (front : List ℕ) × (back : List ℕ) × (piece ≡ front ++ back) × Appends old new front
