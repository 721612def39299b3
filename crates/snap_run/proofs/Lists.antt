-- Lists, and two of them side by side.
use Rattle.std.proofs.Common.{◌≡◌, ℕ, zero, suc, ◌+◌, ◌-◌, ◌<◌, ◌≤◌, List, [], ◌∷◌, ◌++◌, length, take, get_or, refl, sym, ap, ◌∙◌, arith}

pub taken_and_left : {X : Type 0} (n : ℕ) (xs : List X) → length (take n xs) + (length xs - n) ≡ length xs
taken_and_left zero xs = omega arith
taken_and_left (suc n) [] = omega arith
taken_and_left (suc n) (x ∷ xs) = omega (arith, taken_and_left n xs)

module _ {X Y Z : Type 0} (f : X → Y → Z) where
  -- what a function gives of each two that stand at one place
  abbrev pub zipped : List X → List Y → List Z
  zipped (x ∷ xs) (y ∷ ys) = f x y ∷ zipped xs ys
  zipped _ _ = []

  pub zipped_at : (xs : List X) (ys : List Y) (k : ℕ) (x : X) (y : Y) (z : Z) → k < length xs → k < length ys → get_or (zipped xs ys) k z ≡ f (get_or xs k x) (get_or ys k y)
  zipped_at [] ys k x y z h g = absurd (omega (arith, h))
  zipped_at (a ∷ xs) [] k x y z h g = absurd (omega (arith, g))
  zipped_at (a ∷ xs) (b ∷ ys) zero x y z h g = refl
  zipped_at (a ∷ xs) (b ∷ ys) (suc k) x y z h g = zipped_at xs ys k x y z (omega (arith, h)) (omega (arith, g))

  zipped_next : (xs : List X) (ys : List Y) (k : ℕ) (x : X) (y : Y) → k < length xs → k < length ys
      → zipped (take (suc k) xs) (take (suc k) ys) ≡ zipped (take k xs) (take k ys) ++ f (get_or xs k x) (get_or ys k y) ∷ []
  zipped_next [] ys k x y h g = absurd (omega (arith, h))
  zipped_next (a ∷ xs) [] k x y h g = absurd (omega (arith, g))
  zipped_next (a ∷ xs) (b ∷ ys) zero x y h g = refl
  zipped_next (a ∷ xs) (b ∷ ys) (suc k) x y h g = ap (λ zs. f a b ∷ zs) (zipped_next xs ys k x y (omega (arith, h)) (omega (arith, g)))

  -- with one more of each
  pub zipped_more : (xs : List X) (ys : List Y) (k : ℕ) (x : X) (y : Y) → k < length xs → k < length ys
      → zipped (take (k + 1) xs) (take (k + 1) ys) ≡ zipped (take k xs) (take k ys) ++ f (get_or xs k x) (get_or ys k y) ∷ []
  zipped_more xs ys k x y h g =
      let next : k + 1 ≡ suc k = omega arith in
      ap (λ m. zipped (take m xs) (take m ys)) next ∙ zipped_next xs ys k x y h g
