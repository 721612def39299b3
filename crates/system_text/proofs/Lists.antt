-- Lists from an index on.
use Rattle.std.proofs.Common.{◌≡◌, ℕ, ◌+◌, ◌<◌, ◌≤◌, List, [], ◌∷◌, length, drop, get_or, drop-cons, refl, sym, length-drop, take, ◌-◌, map, Bool, arith}
use Rattle.std.specs.List.{list_any, list_all}
use Rattle.std.proofs.lemmas.List.{take_all}
use Prim.Native.Nat.{suc}

pub no_more : {X : Type 0} (ys : List X) → length ys ≡ 0 → ys ≡ []
no_more [] e = refl
no_more (y ∷ ys) e = absurd (omega (arith, e))

pub none_left : {X : Type 0} (xs : List X) (i : ℕ) → length xs ≤ i → drop i xs ≡ []
none_left xs i h = no_more (drop i xs) (omega (arith, h, length-drop i xs))

pub unrolled : {X : Type 0} (xs : List X) (i : ℕ) (d : X) → i < length xs → drop i xs ≡ get_or xs i d ∷ drop (i + 1) xs
unrolled xs i d h = let e : suc i ≡ i + 1 = omega arith in rw (sym e) (drop-cons xs i d h)

-- the rest of a slice
pub suffix : {X : Type 0} (s : List X) (k : ℕ) → take (length s - k) (drop k s) ≡ drop k s
suffix s k = take_all (length s - k) (drop k s) (omega (arith, length-drop k s))

pub list_any_map : {X Y : Type 0} (p : Y → Bool) (f : X → Y) (xs : List X) → list_any p (map f xs) ≡ list_any (λ x. p (f x)) xs
list_any_map p f [] = refl
list_any_map p f (x ∷ xs) = rw (list_any_map p f xs) refl

pub list_all_map : {X Y : Type 0} (p : Y → Bool) (f : X → Y) (xs : List X) → list_all p (map f xs) ≡ list_all (λ x. p (f x)) xs
list_all_map p f [] = refl
list_all_map p f (x ∷ xs) = rw (list_all_map p f xs) refl
