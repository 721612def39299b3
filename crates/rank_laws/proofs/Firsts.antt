-- The first of so many, where there is none; numbers from one on; and how many of a list are a number at least.
use Rattle.std.proofs.Common.{◌≡◌, ℕ, zero, suc, ◌+◌, ◌<◌, ◌≤◌, Bool, true, cond, leb, Option, Some, None, List, [], ◌∷◌, length, get_or, refl, sym, subst, arith, inl, inr, ◌⊎◌}
use Rattle.std.specs.Option.{IfSome}
use Rattle.std.specs.List.{list_any}
use Rattle.std.proofs.lemmas.Bool.{cases_lt, cond_both, le-leb, leb-true, or_cases, false≢true}
use Rattle.std.proofs.lemmas.Option.{none-some}
use Rattle.sys_plan.specs.Plan.{numbers_from}
use Rattle.rank_model.specs.Next.{or_first, first_from}

-- ---- The first of so many

module _ {A : Type 0} where
  pub or_none : (one other : Option A) → or_first one other ≡ None → (one ≡ None) × (other ≡ None)
  or_none None other none = (refl, none)
  or_none (Some a) other none = absurd (none-some a (sym none))

  or_some : (P : A → Type 0) (one other : Option A) → IfSome one P → IfSome other P → IfSome (or_first one other) P
  or_some P None other h also = also
  or_some P (Some a) other h also = h

  module _ (find : ℕ → Option A) where
    -- where none is found, none is at any of the numbers
    pub none_at : (n count : ℕ) → first_from find n count ≡ None → (i : ℕ) → n ≤ i → i < n + count → find i ≡ None
    unfolding first_from
    none_at n zero none i from less = absurd (omega (arith, from, less))
    none_at n (suc count) none i from less = by_case (or_none (find n) (first_from find (n + 1) count) none) (none_at (n + 1) count) (cases_lt n i)
      where
        by_case : (find n ≡ None) × (first_from find (n + 1) count ≡ None)
            → (first_from find (n + 1) count ≡ None → (i : ℕ) → n + 1 ≤ i → i < n + 1 + count → find i ≡ None) → (n < i) ⊎ (i ≤ n) → find i ≡ None
        by_case both rest (inl above) = rest both.1 i (omega (arith, above)) (omega (arith, less))
        by_case both rest (inr at) =
            let same : n ≡ i = omega (arith, from, at) in
            subst (λ j. find j ≡ None) same both.0

    -- what holds of all that may be found holds of the first
    pub first_keeps : (P : A → Type 0) → ((i : ℕ) → IfSome (find i) P) → (n count : ℕ) → IfSome (first_from find n count) P
    unfolding first_from
    first_keeps P each n zero = tt
    first_keeps P each n (suc count) = or_some P (find n) (first_from find (n + 1) count) (each n) (first_keeps P each (n + 1) count)

-- ---- Numbers from one on

pub some_number : (test : ℕ → Bool) (n count : ℕ) → list_any test (numbers_from n count) ≡ true → (i : ℕ) × (i < n + count) × (test i ≡ true)
some_number test n zero hit = absurd (false≢true hit)
some_number test n (suc count) hit = by_case (some_number test (n + 1) count) (or_cases (test n) (list_any test (numbers_from (n + 1) count)) hit)
  where
    by_case : (list_any test (numbers_from (n + 1) count) ≡ true → (i : ℕ) × (i < n + 1 + count) × (test i ≡ true))
        → (test n ≡ true) ⊎ (list_any test (numbers_from (n + 1) count) ≡ true) → (i : ℕ) × (i < n + suc count) × (test i ≡ true)
    by_case rest (inl here) = (n, omega arith, here)
    by_case rest (inr more) = let found = rest more in (found.0, omega (arith, found.1), found.2)

-- ---- How many are a number at least

abbrev pub count_of : ℕ → List ℕ → ℕ
count_of least [] = 0
count_of least (x ∷ xs) = cond (leb least x) 1 0 + count_of least xs

one_at_most : (b : Bool) → cond b 1 0 ≤ 1
one_at_most b = cond_both b 1 0 (λ n. n ≤ 1) (λ e. omega arith) (λ e. omega arith)

pub count_within : (least : ℕ) (xs : List ℕ) → count_of least xs ≤ length xs
count_within least [] = omega arith
count_within least (x ∷ xs) = omega (arith, one_at_most (leb least x), count_within least xs)

module _ (low high : ℕ) (above : low < high) where
  one_falls : (x : ℕ) → cond (leb high x) 1 0 ≤ cond (leb low x) 1 0
  one_falls x =
      cond_both (leb high x) 1 0 (λ n. n ≤ cond (leb low x) 1 0)
      (λ hit. let also : leb low x ≡ true = le-leb low x (omega (arith, above, leb-true high x hit)) in subst (λ b. 1 ≤ cond b 1 0) (sym also) (omega arith))
      (λ miss. omega arith)

  count_falls : (xs : List ℕ) → count_of high xs ≤ count_of low xs
  count_falls [] = omega arith
  count_falls (x ∷ xs) = omega (arith, one_falls x, count_falls xs)

  one_less : (x : ℕ) → x ≡ low → cond (leb high x) 1 0 + 1 ≤ cond (leb low x) 1 0
  one_less x is =
      let also : leb low x ≡ true = le-leb low x (omega (arith, is)) in
      cond_both (leb high x) 1 0 (λ n. n + 1 ≤ cond (leb low x) 1 0)
      (λ hit. absurd (omega (arith, above, is, leb-true high x hit)))
      (λ miss. subst (λ b. 0 + 1 ≤ cond b 1 0) (sym also) (omega arith))

  -- the lower one among them is counted no more
  pub one_fewer : (xs : List ℕ) (i : ℕ) → i < length xs → get_or xs i 0 ≡ low → count_of high xs + 1 ≤ count_of low xs
  one_fewer [] i less is = absurd (omega (arith, less))
  one_fewer (x ∷ xs) zero less is = omega (arith, one_less x is, count_falls xs)
  one_fewer (x ∷ xs) (suc i) less is = omega (arith, one_falls x, one_fewer xs i (omega (arith, less)) is)

-- and it is one of them itself
pub one_counts : (xs : List ℕ) (i : ℕ) → i < length xs → 1 ≤ count_of (get_or xs i 0) xs
one_counts xs i less =
    let low : ℕ = get_or xs i 0 in
    omega (arith, one_fewer low (suc low) (omega arith) xs i less refl)
