-- Lists that grow at their end by one element for each number.
use Rattle.std.proofs.Common.{◌≡◌, ℕ, zero, suc, ◌+◌, ◌<◌, min, Bool, true, false, cond, nat_lt, List, [], ◌∷◌, ◌++◌, length, map, refl, sym, ap, ◌∙◌, subst, inl, inr, arith, length-append}
use Rattle.std.specs.Prelude.{filter, ◌⊎◌}
use Rattle.std.specs.List.{list_any, range_with_len}
use Rattle.std.proofs.lemmas.Bool.{or_from, or_left, or_right, cases_lt, cond-true, cond-false, lt-ltb, le-ltb}
use Rattle.std.proofs.lemmas.List.{map-append}
use Rattle.std.proofs.lemmas.List.Elements.{filter-append}
use Rattle.std.proofs.lemmas.List.Folds.{list_any-append}
use Rattle.std.proofs.lemmas.List.FromFn.{map-range_with_len_more}

-- what f gives for the numbers below k
abbrev pub firsts : {X : Type 0} → (ℕ → X) → ℕ → List X
firsts f zero = []
firsts f (suc k) = firsts f k ++ f k ∷ []

-- a number below the next one is below this one or is it
pub below_or_at : (i k : ℕ) → i < suc k → (i < k) ⊎ (i ≡ k)
below_or_at i k l = elim (cases_lt i k) [ inl low ↦ inl low | inr high ↦ inr (omega arith) ]

module _ {X : Type 0} where
  -- no element passes a test that none passes
  pub any_none : (p : X → Bool) (f : ℕ → X) (k : ℕ) → ((i : ℕ) → i < k → p (f i) ≡ false) → list_any p (firsts f k) ≡ false
  any_none p f zero h = refl
  any_none p f (suc k) h =
      list_any-append p (firsts f k) (f k ∷ [])
      ∙ or_from _ _ (any_none p f k (λ i l. h i (omega arith))) (or_from _ _ (h k (omega arith)) refl)

  -- one that passes settles it
  pub any_one : (p : X → Bool) (f : ℕ → X) (k i : ℕ) → i < k → p (f i) ≡ true → list_any p (firsts f k) ≡ true
  any_one p f zero i l e = absurd (omega arith)
  any_one p f (suc k) i l e =
      list_any-append p (firsts f k) (f k ∷ [])
      ∙ elim (below_or_at i k l) [
        | inl low ↦ or_left _ _ (any_one p f k i low e)
        | inr here ↦ or_right (list_any p (firsts f k)) _ (or_left _ _ (subst (λ j. p (f j) ≡ true) here e))
      ]

  -- there are k of them
  pub length-firsts : (f : ℕ → X) (k : ℕ) → length (firsts f k) ≡ k
  length-firsts f zero = refl
  length-firsts f (suc k) = length-append (firsts f k) (f k ∷ []) ∙ omega (arith, length-firsts f k)

  -- they are what f gives for the counted numbers
  pub firsts_counted : (f : ℕ → X) (k : ℕ) → firsts f k ≡ map f (range_with_len 0 k)
  firsts_counted f zero = refl
  firsts_counted f (suc k) =
      let on : k + 1 ≡ suc k = omega arith in
      ap (λ xs. xs ++ f k ∷ []) (firsts_counted f k) ∙ sym (map-range_with_len_more f 0 k k (omega arith)) ∙ ap (λ m. map f (range_with_len 0 m)) on

  -- one element more counts if its number is below i
  one_more : (k i m : ℕ) (x : X) → m ≡ min k i → m + length (cond (nat_lt k i) (x ∷ []) []) ≡ min (suc k) i
  one_more k i m x e = elim (cases_lt k i) [
    | inl low ↦ ap (λ (xs : List X). m + length xs) (cond-true (nat_lt k i) (x ∷ []) [] (lt-ltb k i low)) ∙ omega (arith, low)
    | inr high ↦ ap (λ (xs : List X). m + length xs) (cond-false (nat_lt k i) (x ∷ []) [] (le-ltb k i high)) ∙ omega (arith, high)
  ]

  -- so many of them have a number below i, where each has its own
  pub count_below : (number : X → ℕ) (f : ℕ → X) → ((i : ℕ) → number (f i) ≡ i) → (k i : ℕ) → length (filter (λ x. nat_lt (number x) i) (firsts f k)) ≡ min k i
  count_below number f h zero i = omega arith
  count_below number f h (suc k) i =
      ap length (filter-append (λ x. nat_lt (number x) i) (firsts f k) (f k ∷ []))
      ∙ length-append (filter (λ x. nat_lt (number x) i) (firsts f k)) _
      ∙ ap (λ j. length (filter (λ x. nat_lt (number x) i) (firsts f k)) + length (cond (nat_lt j i) (f k ∷ []) [])) (h k)
      ∙ one_more k i _ (f k) (count_below number f h k i)

-- a map of them is what both give
pub map-firsts : {X Y : Type 0} (g : X → Y) (f : ℕ → X) (k : ℕ) → map g (firsts f k) ≡ firsts (λ i. g (f i)) k
map-firsts g f zero = refl
map-firsts g f (suc k) = map-append g (firsts f k) (f k ∷ []) ∙ ap (λ xs. xs ++ g (f k) ∷ []) (map-firsts g f k)
