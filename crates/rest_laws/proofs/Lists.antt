-- Lists that are joined place by place, and the front of a list.
use Rattle.std.proofs.Common.{ℕ, zero, suc, ◌≡◌, ◌-◌, List, [], ◌∷◌, ◌++◌, length, take, refl, ap, ◌∙◌, arith}
use Rattle.std.specs.List.{AllByRecursion}
use Rattle.std.proofs.lemmas.List.{length-take}

module _ {X : Type 0} (P : X → Type 0) where
  pub all-take : (n : ℕ) (xs : List X) → AllByRecursion P xs → AllByRecursion P (take n xs)
  all-take zero xs h = tt
  all-take (suc n) [] h = tt
  all-take (suc n) (x ∷ xs) h = (h.0, all-take n xs h.1)

module _ {X : Type 0} where
  take-joined : (n : ℕ) (xs ys : List X) → take n (xs ++ ys) ≡ take n xs ++ take (n - length xs) ys
  take-joined zero xs ys = let none : 0 ≡ 0 - length xs = omega arith in ap (λ m. take m ys) none
  take-joined (suc n) [] ys = let all : suc n ≡ suc n - length {A = X} [] = omega arith in ap (λ m. take m ys) all
  take-joined (suc n) (x ∷ xs) ys =
      let same : n - length xs ≡ suc n - length (x ∷ xs) = omega arith in
      ap (λ l. x ∷ l) (take-joined n xs ys ∙ ap (λ m. take n xs ++ take m ys) same)

  -- what is kept of two lists, one after the other: the second has the room that the first leaves
  pub take-append : (n : ℕ) (xs ys : List X) → take n (xs ++ ys) ≡ take n xs ++ take (n - length (take n xs)) ys
  take-append n xs ys =
      let same : n - length xs ≡ n - length (take n xs) = omega (arith, length-take n xs) in
      take-joined n xs ys ∙ ap (λ m. take n xs ++ take m ys) same

  -- each of the first lists goes on with the one of its place
  abbrev pub joined : List (List X) → List (List X) → List (List X)
  joined (xs ∷ all) (ys ∷ others) = (xs ++ ys) ∷ joined all others
  joined _ _ = []

  pub length-joined : (all others : List (List X)) → length others ≡ length all → length (joined all others) ≡ length all
  length-joined [] others h = refl
  length-joined (xs ∷ all) [] h = absurd (omega (arith, h))
  length-joined (xs ∷ all) (ys ∷ others) h = ap suc (length-joined all others (omega (arith, h)))
