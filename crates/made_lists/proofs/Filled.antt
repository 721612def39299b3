-- A list that is filled, place by place, with what a function makes of another one.
use Rattle.std.proofs.Common.{ℕ, ◌≡◌, ◌+◌, ◌<◌, ◌≤◌, List, ◌++◌, ◌∷◌, [], length, get_or, set, take, sym, ap, ◌∙◌}
use Rattle.std.specs.Prelude.{map}
use Rattle.std.proofs.lemmas.List.{take_more_set, map_more, take_all}

module _ {A B : Type 0} (f : A → B) (xs : List A) where
  -- one more place
  pub filled_more : (ys : List B) (k : ℕ) (a : A) → k < length xs → k < length ys → a ≡ get_or xs k a → take k ys ≡ map f (take k xs) → take (k + 1) (set ys k (f a)) ≡ map f (take (k + 1) xs)
  filled_more ys k a here place is done =
      take_more_set ys k (f a) place
      ∙ ap (λ front. front ++ f a ∷ []) done
      ∙ ap (λ x. map f (take k xs) ++ f x ∷ []) is
      ∙ sym (map_more f xs k a here)

  -- all places
  pub filled_all : (ys : List B) (k : ℕ) → length xs ≤ k → length ys ≤ k → take k ys ≡ map f (take k xs) → ys ≡ map f xs
  filled_all ys k all places done = sym (take_all k ys places) ∙ done ∙ ap (map f) (take_all k xs all)
