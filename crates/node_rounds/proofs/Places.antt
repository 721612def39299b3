-- What holds of each element of a list, where one changes.
use Rattle.std.proofs.Common.{◌≡◌, ℕ, zero, suc, ◌<◌, List, [], ◌∷◌, ◌++◌, length, take, map, get_or, set, refl, sym, ap, ◌∙◌, arith}
use Rattle.std.proofs.lemmas.List.{get_or-map}
use Rattle.std.specs.Prelude.{All}
use Rattle.plan_lanes.proofs.Places.{all_at_set}

pub all_set : {X : Type 0} (P : X → Type 0) (xs : List X) (i : ℕ) (y : X) → All P xs → P y → All P (set xs i y)
all_set P xs i y all here = all_at_set (λ k x. P x) (λ k x. P x) xs i y all (λ k x apart h. h) here

-- an element of a list is at its place in the list of what is made of each
pub at_map : {X Y : Type 0} (f : X → Y) (xs : List X) (k : ℕ) (x : X) → k < length xs → x ≡ get_or xs k x → f x ≡ get_or (map f xs) k (f x)
at_map f xs k x below is = ap f is ∙ sym (get_or-map f xs k x (f x) below)

-- an element at a place
pub element : {X : Type 0} (xs : List X) (k : ℕ) → k < length xs → (x : X) × (x ≡ get_or xs k x)
element [] k h = absurd (omega (arith, h))
element (x ∷ xs) zero h = (x, refl)
element (x ∷ xs) (suc k) h = element xs k (omega (arith, h))

-- the front of a list
pub take_front : {X : Type 0} (ys zs : List X) (n : ℕ) → n ≡ length ys → take n (ys ++ zs) ≡ ys
take_front [] zs zero is = refl
take_front [] zs (suc n) is = absurd (omega (arith, is))
take_front (y ∷ ys) zs zero is = absurd (omega (arith, is))
take_front (y ∷ ys) zs (suc n) is = ap (λ l. y ∷ l) (take_front ys zs n (omega (arith, is)))
