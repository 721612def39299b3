-- The first of some arcs that passes a test: among two lists of them, and counted from another number.
use Rattle.std.proofs.Common.{◌≡◌, ℕ, ◌+◌, Bool, true, false, cond, Some, None, List, [], ◌∷◌, ◌++◌, length, option_map, refl, sym, ap, ◌∙◌, arith, inl, inr}
use mathlib.Core.Logic.{◌⊎◌}
use Rattle.std.proofs.lemmas.Bool.{cases_Bool}
use Rattle.std.proofs.lemmas.Option.{none-some}
use Rattle.sys_plan.specs.Plan.{Arc, first_arc}

module _ (test : Arc → Bool) where
  -- where none of the first ones passes it, it is the first of the others
  pub none-then : (xs ys : List Arc) (n : ℕ) → first_arc test n xs ≡ None → first_arc test n (xs ++ ys) ≡ first_arc test (n + length xs) ys
  none-then [] ys n h = ap (λ i. first_arc test i ys) (omega arith)
  none-then (x ∷ xs) ys n h = by (cases_Bool (test x)) h (λ e. none-then xs ys (n + 1) e)
    where
      by : (test x ≡ true) ⊎ (test x ≡ false) → first_arc test n (x ∷ xs) ≡ None
          → (first_arc test (n + 1) xs ≡ None → first_arc test (n + 1) (xs ++ ys) ≡ first_arc test (n + 1 + length xs) ys)
          → first_arc test n ((x ∷ xs) ++ ys) ≡ first_arc test (n + length (x ∷ xs)) ys
      by (inl is) k further = absurd (none-some n (sym k ∙ rw is refl))
      by (inr is) k further =
          let none : first_arc test (n + 1) xs ≡ None = sym (ap (λ b. cond b (Some n) (first_arc test (n + 1) xs)) is) ∙ k in
          let on : n + 1 + length xs ≡ n + length (x ∷ xs) = omega arith in
          rw is (further none ∙ ap (λ i. first_arc test i ys) on)

  -- where none of the others passes it, it is the first of the first ones
  pub then-none : (xs ys : List Arc) (n : ℕ) → ((m : ℕ) → first_arc test m ys ≡ None) → first_arc test n (xs ++ ys) ≡ first_arc test n xs
  then-none [] ys n h = h n
  then-none (x ∷ xs) ys n h = by (cases_Bool (test x)) (then-none xs ys (n + 1) h)
    where
      by : (test x ≡ true) ⊎ (test x ≡ false) → first_arc test (n + 1) (xs ++ ys) ≡ first_arc test (n + 1) xs
          → first_arc test n ((x ∷ xs) ++ ys) ≡ first_arc test n (x ∷ xs)
      by (inl is) further = rw is refl
      by (inr is) further = rw is further

  -- counted from another number
  pub counted-from : (xs : List Arc) (m n : ℕ) → first_arc test (m + n) xs ≡ option_map (λ k. m + k) (first_arc test n xs)
  counted-from [] m n = refl
  counted-from (x ∷ xs) m n = by (cases_Bool (test x)) (counted-from xs m (n + 1))
    where
      by : (test x ≡ true) ⊎ (test x ≡ false) → first_arc test (m + (n + 1)) xs ≡ option_map (λ k. m + k) (first_arc test (n + 1) xs)
          → first_arc test (m + n) (x ∷ xs) ≡ option_map (λ k. m + k) (first_arc test n (x ∷ xs))
      by (inl is) further = rw is refl
      by (inr is) further =
          let on : m + n + 1 ≡ m + (n + 1) = omega arith in
          rw is (ap (λ i. first_arc test i xs) on ∙ further)
