-- What holds of all elements of a list.
use Rattle.std.proofs.Common.{◌≡◌, ℕ, zero, suc, ◌<◌, Bool, true, false, cond, List, [], ◌∷◌, ◌++◌, length, get_or, filter, slice_get, Some, refl, ap, arith}
use Rattle.std.specs.List.{AllByRecursion}

-- what stands at an index within a list
pub there : {X : Type 0} (xs : List X) (n : ℕ) → n < length xs → (x : X) × (slice_get xs n ≡ Some x)
there [] n within = absurd (omega arith)
there (x ∷ xs) zero within = (x, refl)
there (x ∷ xs) (suc n) within = there xs n (omega arith)

module _ {X : Type 0} (P : X → Type 0) where
  pub both_all : (xs ys : List X) → AllByRecursion P xs → AllByRecursion P ys → AllByRecursion P (xs ++ ys)
  both_all [] ys h k = k
  both_all (x ∷ xs) ys h k = (h.0, both_all xs ys h.1 k)

  -- of a list with one element where a test holds, else with none
  pub one_all : (test : Bool) (x : X) → P x → AllByRecursion P (cond test (x ∷ []) [])
  one_all true x h = (h, tt)
  one_all false x h = tt

  pub all_from_each : (default : X) (xs : List X) → ((n : ℕ) → n < length xs → P (get_or xs n default)) → AllByRecursion P xs
  all_from_each default [] each = tt
  all_from_each default (x ∷ xs) each = (each 0 (omega arith), all_from_each default xs (λ n within. each (suc n) (omega (arith, within))))

module _ {X : Type 0} (P Q : X → Type 0) where
  pub both_hold : (xs : List X) → AllByRecursion P xs → AllByRecursion Q xs → AllByRecursion (λ x. P x × Q x) xs
  both_hold [] h k = tt
  both_hold (x ∷ xs) h k = ((h.0, k.0), both_hold xs h.1 k.1)

module _ {X : Type 0} (P Q : X → Type 0) (weaker : (x : X) → P x → Q x) where
  pub all_weaker : (xs : List X) → AllByRecursion P xs → AllByRecursion Q xs
  all_weaker [] h = tt
  all_weaker (x ∷ xs) h = (weaker x h.0, all_weaker xs h.1)

module _ {X : Type 0} (test : X → Bool) where
  pub filter_all : (xs : List X) → AllByRecursion (λ x. test x ≡ true) xs → filter test xs ≡ xs
  filter_all [] h = refl
  filter_all (x ∷ xs) h = rw h.0 (ap (λ l. x ∷ l) (filter_all xs h.1))

  pub filter_none : (xs : List X) → AllByRecursion (λ x. test x ≡ false) xs → filter test xs ≡ []
  filter_none [] h = refl
  filter_none (x ∷ xs) h = rw h.0 (filter_none xs h.1)
