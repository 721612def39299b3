-- How many bytes lists have.
use Rattle.std.proofs.Common.{◌≡◌, ℕ, ◌+◌, ◌*◌, ◌≤◌, List, [], ◌∷◌, ◌++◌, length, refl, ap, ◌∙◌, arith}
use Rattle.std.specs.List.{sum_by}
use Rattle.std.proofs.lemmas.List.{length-append}
use Rattle.std.proofs.lemmas.List.Sums.{sum_by-cons}
use Rattle.byte_forms.specs.Forms.{Form, write_chain, HoldInChain}

-- so many of each, and more of some
linear : {A : Type 0} (c d : ℕ) (more : A → ℕ) (xs : List A) → sum_by (λ x. c + d * more x) xs ≡ c * length xs + d * sum_by more xs
linear c d more [] = omega arith
linear c d more (x ∷ xs) = omega (arith, linear c d more xs, sum_by-cons (λ y. c + d * more y) x xs, ap (λ (n : ℕ). d * n) (sum_by-cons more x xs))

module _ {A : Type 0} (form : List A → Form A) where
  -- elements that have so many bytes each
  alike : (c : ℕ) → ((before : List A) (x : A) → (form before).Holds x → length ((form before).write x) ≡ c)
      → (before xs : List A) → HoldInChain form before xs → length (write_chain form before xs) ≡ c * length xs
  unfolding write_chain HoldInChain
  alike c each before [] h = omega arith
  alike c each before (x ∷ xs) h =
      omega (arith, length-append ((form before).write x) (write_chain form (before ++ x ∷ []) xs), each before x h.0, alike c each (before ++ x ∷ []) xs h.1)

  summed : (size : A → ℕ) → ((before : List A) (x : A) → (form before).Holds x → length ((form before).write x) ≡ size x)
      → (before xs : List A) → HoldInChain form before xs → length (write_chain form before xs) ≡ sum_by size xs
  unfolding write_chain HoldInChain
  summed size each before [] h = refl
  summed size each before (x ∷ xs) h =
      omega (arith, length-append ((form before).write x) (write_chain form (before ++ x ∷ []) xs), each before x h.0, summed size each (before ++ x ∷ []) xs h.1, sum_by-cons size x xs)

  -- `count` elements that have so many bytes each
  pub chain_alike : (count c : ℕ) → ((before : List A) (x : A) → (form before).Holds x → length ((form before).write x) ≡ c)
      → (xs : List A) → (length xs ≡ count) × HoldInChain form [] xs → length (write_chain form [] xs) ≡ c * count
  chain_alike count c each xs h = alike c each [] xs h.1 ∙ rw (h.0) refl

  -- `count` elements that have so many bytes each, and so many for each of what there is more of some
  pub chain_linear : (count c d : ℕ) (more : A → ℕ) → ((before : List A) (x : A) → (form before).Holds x → length ((form before).write x) ≡ c + d * more x)
      → (xs : List A) → (length xs ≡ count) × HoldInChain form [] xs → length (write_chain form [] xs) ≡ c * count + d * sum_by more xs
  chain_linear count c d more each xs h = summed (λ x. c + d * more x) each [] xs h.1 ∙ linear c d more xs ∙ rw (h.0) refl

  -- what there is at most of each
  pub chain_most : (most : ℕ) (size : A → ℕ) → ((before : List A) (x : A) → (form before).Holds x → size x ≤ most)
      → (before xs : List A) → HoldInChain form before xs → sum_by size xs ≤ most * length xs
  unfolding HoldInChain
  chain_most most size each before [] h = omega arith
  chain_most most size each before (x ∷ xs) h =
      omega (arith, sum_by-cons size x xs, each before x h.0, chain_most most size each (before ++ x ∷ []) xs h.1)
