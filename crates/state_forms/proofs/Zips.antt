-- Two lists side by side.
use Rattle.std.proofs.Common.{◌≡◌, List, [], ◌∷◌, ◌++◌, length, refl, ap, arith}
use Rattle.std.specs.List.{zip, AllByRecursion}

-- one pair more
pub zip_push : {A B : Type 0} (xs : List A) (ys : List B) (x : A) (y : B) → length xs ≡ length ys → zip (xs ++ x ∷ []) (ys ++ y ∷ []) ≡ zip xs ys ++ (x, y) ∷ []
zip_push [] [] x y e = refl
zip_push [] (b ∷ ys) x y e = absurd (omega arith)
zip_push (a ∷ xs) [] x y e = absurd (omega arith)
zip_push {A} {B} (a ∷ xs) (b ∷ ys) x y e = ap (λ (rest : List (A × B)). (a, b) ∷ rest) (zip_push xs ys x y (omega arith))

-- what holds of each pair holds of the lists, and the other way round
module _ {A B : Type 0} (P : A → Type 0) (Q : B → Type 0) where
  pub unzip_all : (xs : List A) (ys : List B) → length ys ≡ length xs → AllByRecursion (λ (p : A × B). P p.0 × Q p.1) (zip xs ys) → AllByRecursion P xs × AllByRecursion Q ys
  unzip_all [] [] e h = (tt, tt)
  unzip_all [] (y ∷ ys) e h = absurd (omega arith)
  unzip_all (x ∷ xs) [] e h = absurd (omega arith)
  unzip_all (x ∷ xs) (y ∷ ys) e h = let rest = unzip_all xs ys (omega arith) h.1 in ((h.0.0, rest.0), (h.0.1, rest.1))

  pub zip_all : (xs : List A) (ys : List B) → AllByRecursion P xs → AllByRecursion Q ys → AllByRecursion (λ (p : A × B). P p.0 × Q p.1) (zip xs ys)
  zip_all [] ys h k = tt
  zip_all (x ∷ xs) [] h k = tt
  zip_all (x ∷ xs) (y ∷ ys) h k = ((h.0, k.0), zip_all xs ys h.1 k.1)
