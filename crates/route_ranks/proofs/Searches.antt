-- The first that is found at a number, and whether some number passes a test, number by number.
use Rattle.std.proofs.Common.{ℕ, suc, ◌≡◌, ◌+◌, Bool, true, false, ◌||◌, Option, Some, None, is_some, refl, sym, ap}
use Rattle.std.specs.List.{list_any}
use Rattle.sys_plan.specs.Plan.{numbers_from}
use Rattle.rank_model.specs.Next.{or_first, first_from}

-- ---- The first that is found

module _ {A : Type 0} (find : ℕ → Option A) (n count : ℕ) where
  pub none_found : count ≡ 0 → first_from find n count ≡ None
  unfolding first_from
  none_found is = ap (first_from find n) is

  module _ (less : ℕ) (is : count ≡ suc less) where
    pub found_later : find n ≡ None → first_from find n count ≡ first_from find (n + 1) less
    unfolding first_from
    found_later none = rw is (ap (λ (o : Option A). or_first o (first_from find (n + 1) less)) none)

    found : (o : Option A) → is_some o ≡ true → find n ≡ o → first_from find n count ≡ o
    unfolding first_from
    found None some here = absurd (cc)
    found (Some a) some here = rw is (ap (λ (o : Option A). or_first o (first_from find (n + 1) less)) here)

    pub found_here : (o : Option A) → o ≡ find n → is_some o ≡ true → o ≡ first_from find n count
    found_here o here some = sym (found o some (sym here))

-- what is not some is none
pub is_none_then : {A : Type 0} (o : Option A) → is_some o ≡ false → o ≡ None
is_none_then None none = refl
is_none_then (Some a) none = absurd (cc)

-- ---- Whether some number passes a test

module _ (test : ℕ → Bool) (n count : ℕ) where
  pub none_passes : count ≡ 0 → list_any test (numbers_from n count) ≡ false
  none_passes is = ap (λ k. list_any test (numbers_from n k)) is

  module _ (less : ℕ) (is : count ≡ suc less) where
    pub passes_here : test n ≡ true → list_any test (numbers_from n count) ≡ true
    passes_here here = rw is (ap (λ (b : Bool). b || list_any test (numbers_from (n + 1) less)) here)

    pub passes_later : test n ≡ false → list_any test (numbers_from n count) ≡ list_any test (numbers_from (n + 1) less)
    passes_later not_here = rw is (ap (λ (b : Bool). b || list_any test (numbers_from (n + 1) less)) not_here)
