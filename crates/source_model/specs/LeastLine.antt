-- Which fault of some lines decides: that of the least line that has one, and of the kinds of which that line has a fault
-- the first in an order. Lines count from 1. What a line with a number has a fault of is for a test to say.
use Rattle.std.specs.Prelude.{ℕ, ◌≡◌, ◌<◌, Bool, false, Some, List, find}

pub record IsFirstFault {Kind : Type 0} (has_fault : Kind → ℕ → Bool) (order : List Kind) (number : ℕ) (kind : Kind) : Type 0 where
  -- the kind is the first of which the line has a fault
  pub first : find (λ k. has_fault k number) order ≡ Some kind
  -- no line before it has one of any kind
  pub least : (n : ℕ) → n < number → (k : Kind) → has_fault k n ≡ false

-- no line has a fault of any kind
abbrev pub HasNoFault : {Kind : Type 0} → (Kind → ℕ → Bool) → Type 0
HasNoFault {Kind} has_fault = (n : ℕ) (k : Kind) → has_fault k n ≡ false
