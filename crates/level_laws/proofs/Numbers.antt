-- Ascending numbers: one that stands at two positions stands at one.
use Rattle.std.proofs.Common.{◌≡◌, ℕ, zero, suc, ◌<◌, List, [], ◌∷◌, length, get_or, arith, inl, inr}
use mathlib.Core.Logic.{◌⊎◌}
use Rattle.std.proofs.lemmas.Bool.{cases_order}
use Rattle.sys_plan.specs.Plan.{AreAscending}

-- those after the first are above it
first_is_least : (x : ℕ) (xs : List ℕ) (k : ℕ) → AreAscending (x ∷ xs) → k < length xs → x < get_or xs k 0
first_is_least x [] k h within = absurd (omega arith)
first_is_least x (y ∷ xs) zero h within = h.0
first_is_least x (y ∷ xs) (suc k) h within = let later = first_is_least y xs k h.1 (omega arith) in omega (arith, h.0, later)

rest_ascends : (x : ℕ) (xs : List ℕ) → AreAscending (x ∷ xs) → AreAscending xs
rest_ascends x [] h = tt
rest_ascends x (y ∷ xs) h = h.1

pub ascends : (xs : List ℕ) (i j : ℕ) → AreAscending xs → i < j → j < length xs → get_or xs i 0 < get_or xs j 0
ascends [] i j h below within = absurd (omega arith)
ascends (x ∷ xs) i zero h below within = absurd (omega arith)
ascends (x ∷ xs) zero (suc j) h below within = first_is_least x xs j h (omega arith)
ascends (x ∷ xs) (suc i) (suc j) h below within = ascends xs i j (rest_ascends x xs h) (omega arith) (omega arith)

pub names_one : (xs : List ℕ) (i j : ℕ) → AreAscending xs → i < length xs → j < length xs → get_or xs i 0 ≡ get_or xs j 0 → i ≡ j
names_one xs i j h i_in j_in same = by_order (cases_order i j)
  where
    by_order : (i ≡ j) ⊎ ((i < j) ⊎ (j < i)) → i ≡ j
    by_order (inl is) = is
    by_order (inr (inl below)) = absurd (omega (arith, ascends xs i j h below j_in, same))
    by_order (inr (inr above)) = absurd (omega (arith, ascends xs j i h above i_in, same))
