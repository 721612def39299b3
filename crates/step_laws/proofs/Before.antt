-- How many last issues are below bounds, and that they become fewer.
use Rattle.std.proofs.Common.{◌≡◌, ◌⊎◌, inl, inr, ℕ, zero, suc, ◌+◌, ◌<◌, ◌≤◌, Bool, nat_lt, if◌then◌else◌, Option, None, List, [], ◌∷◌, length, get_or, ap, arith}
use Rattle.std.proofs.lemmas.Bool.{cases_lt, lt-ltb, le-ltb}
use Rattle.xs_base.specs.Numbers.{Slot}
use Rattle.step_laws.proofs.Best.{rank}

-- ---- One last issue

abbrev one_if : Bool → ℕ
one_if holds = if holds then 1 else 0

-- 1 where a last issue is below a bound, else 0
below : Option Slot → ℕ → ℕ
below last bound = one_if (nat_lt (rank last) bound)

below_is_one : (last : Option Slot) (bound : ℕ) → rank last < bound → below last bound ≡ 1
unfolding below
below_is_one last bound h = ap one_if (lt-ltb (rank last) bound h)

below_is_zero : (last : Option Slot) (bound : ℕ) → bound ≤ rank last → below last bound ≡ 0
unfolding below
below_is_zero last bound h = ap one_if (le-ltb (rank last) bound h)

below_most : (last : Option Slot) (bound : ℕ) → below last bound ≤ 1
below_most last bound = elim (cases_lt (rank last) bound) [
  | inl less ↦ omega (arith, below_is_one last bound less)
  | inr more ↦ omega (arith, below_is_zero last bound more)
]

-- it is as it was, or not below its bound
abbrev pub IsSameOrPast : ℕ → Option Slot → Option Slot → Type 0
IsSameOrPast bound old new = (new ≡ old) ⊎ (bound ≤ rank new)

below_stays : (bound : ℕ) (old new : Option Slot) → IsSameOrPast bound old new → below new bound ≤ below old bound
below_stays bound old new (inl same) = omega (arith, ap (λ last. below last bound) same)
below_stays bound old new (inr past) = omega (arith, below_is_zero new bound past)

-- ---- All of them

-- how many last issues are below bounds that go by their places
pub count_below : (ℕ → ℕ) → List (Option Slot) → ℕ
count_below bound [] = 0
count_below bound (last ∷ rest) = below last (bound 0) + count_below (λ i. bound (suc i)) rest

count_most : (bound : ℕ → ℕ) (lasts : List (Option Slot)) → count_below bound lasts ≤ length lasts
unfolding count_below
count_most bound [] = omega arith
count_most bound (last ∷ rest) = omega (arith, below_most last (bound 0), count_most (λ i. bound (suc i)) rest)

-- where one is not, they are fewer than all
pub count_less : (bound : ℕ → ℕ) (lasts : List (Option Slot)) (i : ℕ) → i < length lasts → bound i ≤ rank (get_or lasts i None) → count_below bound lasts < length lasts
unfolding count_below
count_less bound [] i within past = absurd (omega arith)
count_less bound (last ∷ rest) zero within past =
    omega (arith, below_is_zero last (bound 0) past, count_most (λ i. bound (suc i)) rest)
count_less bound (last ∷ rest) (suc i) within past =
    omega (arith, below_most last (bound 0), count_less (λ i. bound (suc i)) rest i (omega arith) past)

count_stays : (bound : ℕ → ℕ) (old new : List (Option Slot)) → length new ≡ length old → ((i : ℕ) → IsSameOrPast (bound i) (get_or old i None) (get_or new i None)) → count_below bound new ≤ count_below bound old
unfolding count_below
count_stays bound [] [] long each = omega arith
count_stays bound [] (y ∷ new) long each = absurd (omega arith)
count_stays bound (x ∷ old) [] long each = absurd (omega arith)
count_stays bound (x ∷ old) (y ∷ new) long each =
    omega (arith, below_stays (bound 0) x y (each 0), count_stays (λ i. bound (suc i)) old new (omega arith) (λ i. each (suc i)))

-- where one is no longer, they are fewer than before
pub count_falls : (bound : ℕ → ℕ) (old new : List (Option Slot)) (p : ℕ) → length new ≡ length old → ((i : ℕ) → IsSameOrPast (bound i) (get_or old i None) (get_or new i None)) → p < length old → rank (get_or old p None) < bound p → bound p ≤ rank (get_or new p None) → count_below bound new < count_below bound old
unfolding count_below
count_falls bound [] new p long each within was is = absurd (omega arith)
count_falls bound (x ∷ old) [] p long each within was is = absurd (omega arith)
count_falls bound (x ∷ old) (y ∷ new) zero long each within was is =
    omega (arith, below_is_one x (bound 0) was, below_is_zero y (bound 0) is, count_stays (λ i. bound (suc i)) old new (omega arith) (λ i. each (suc i)))
count_falls bound (x ∷ old) (y ∷ new) (suc p) long each within was is =
    omega (arith, below_stays (bound 0) x y (each 0), count_falls (λ i. bound (suc i)) old new p (omega arith) (λ i. each (suc i)) (omega arith) was is)
