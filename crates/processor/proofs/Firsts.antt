-- The first slot at which something holds, searched piece by piece.
use Rattle.std.proofs.Common.{◌≡◌, ◌≤◌, ◌<◌, ◌⊎◌, ℕ, Bool, inl, inr, arith}
use Rattle.std.proofs.lemmas.Bool.{cases_lt}
use Rattle.quiet_model.specs.Slots.{NoneBefore, IsFirst}

module _ (holds : ℕ → Bool) (from at : ℕ) (before : NoneBefore holds from at) where
  -- it holds at none of two pieces
  pub none_further : (end : ℕ) → NoneBefore holds at end → NoneBefore holds from end
  none_further end none slot low high = elim (cases_lt slot at) [ inl less ↦ before slot low less | inr more ↦ none slot more high ]

  -- the first of the second piece is the first of both
  pub first_further : (bound end result : ℕ) → from ≤ at → end ≤ bound → IsFirst holds at end result → result < end → IsFirst holds from bound result
  first_further bound end result after within is less = record {
    none_before = none_further result is.none_before;
    there = elim is.there [ inl there ↦ inl (omega (arith, there.0), omega arith, there.2) | inr end_is ↦ absurd (omega arith) ];
  }

-- where it isn't before the end, it is the end, and it holds at none of the slots before
pub none_to_end : (holds : ℕ → Bool) (at end result : ℕ) → IsFirst holds at end result → end ≤ result → NoneBefore holds at end
none_to_end holds at end result is more slot low high = is.none_before slot low (omega arith)
