-- Which lists have the form of a chain, element by element.
use Rattle.std.proofs.Common.{ℕ, zero, suc, ◌<◌, List, [], ◌∷◌, ◌++◌, length, get_or, take, sym, subst, append_assoc, arith}
use Rattle.std.proofs.lemmas.List.{append-nil}
use Rattle.std.specs.List.{AllByRecursion}
use Rattle.byte_forms.specs.Forms.{Form, HoldInChain}

module _ {A : Type 0} (form : List A → Form A) where
  pub chain_at : (before xs : List A) → HoldInChain form before xs → (i : ℕ) (d : A) → i < length xs → (form (before ++ take i xs)).Holds (get_or xs i d)
  unfolding HoldInChain
  chain_at before [] h i d lt = absurd (omega (arith, lt))
  chain_at before (x ∷ xs) h zero d lt = subst (λ (b : List A). (form b).Holds x) (sym (append-nil before)) h.0
  chain_at before (x ∷ xs) h (suc i) d lt =
      subst (λ (b : List A). (form b).Holds (get_or xs i d)) (append_assoc before (x ∷ []) (take i xs)) (chain_at (before ++ x ∷ []) xs h.1 i d (omega (arith, lt)))

  pub chain_of : (d : A) (before xs : List A) → ((i : ℕ) → i < length xs → (form (before ++ take i xs)).Holds (get_or xs i d)) → HoldInChain form before xs
  unfolding HoldInChain
  chain_of d before [] all = tt
  chain_of d before (x ∷ xs) all = (
    subst (λ (b : List A). (form b).Holds x) (append-nil before) (all 0 (omega arith)),
    chain_of d (before ++ x ∷ []) xs (λ i lt. subst (λ (b : List A). (form b).Holds (get_or xs i d)) (sym (append_assoc before (x ∷ []) (take i xs))) (all (suc i) (omega (arith, lt)))),
  )

-- what holds at each place
module _ {A : Type 0} (P : A → Type 0) where
  pub each_of : (d : A) (xs : List A) → ((i : ℕ) → i < length xs → P (get_or xs i d)) → AllByRecursion P xs
  each_of d [] all = tt
  each_of d (x ∷ xs) all = (all 0 (omega arith), each_of d xs (λ i lt. all (suc i) (omega (arith, lt))))

  pub each_at : (xs : List A) → AllByRecursion P xs → (i : ℕ) (d : A) → i < length xs → P (get_or xs i d)
  each_at [] h i d lt = absurd (omega (arith, lt))
  each_at (x ∷ xs) h zero d lt = h.0
  each_at (x ∷ xs) h (suc i) d lt = each_at xs h.1 i d (omega (arith, lt))
