-- What holds at every place of a list.
use Rattle.std.proofs.Common.{◌≡◌, ℕ, zero, suc, List, [], ◌∷◌, map, get_or, slice_set, replicate, refl, ap}
use Rattle.std.specs.List.{AllByRecursion}

module _ {A : Type 0} (P : A → Type 0) (d : A) where
  abbrev pub Each : List A → Type 0
  Each xs = (i : ℕ) → P (get_or xs i d)

  pub set_at : (xs : List A) (j : ℕ) (x : A) (i : ℕ) → P x → P (get_or xs i d) → P (get_or (slice_set xs j x) i d)
  set_at [] j x i new old = old
  set_at (y ∷ xs) zero x zero new old = new
  set_at (y ∷ xs) zero x (suc i) new old = old
  set_at (y ∷ xs) (suc j) x zero new old = old
  set_at (y ∷ xs) (suc j) x (suc i) new old = set_at xs j x i new old

  pub each_set : (xs : List A) (j : ℕ) (x : A) → Each xs → P x → Each (slice_set xs j x)
  each_set xs j x all new = λ i. set_at xs j x i new (all i)

  pub map_at : (f : A → A) (xs : List A) (i : ℕ) → ((x : A) → P x → P (f x)) → P (get_or xs i d) → P (get_or (map f xs) i d)
  map_at f [] i so h = h
  map_at f (x ∷ xs) zero so h = so x h
  map_at f (x ∷ xs) (suc i) so h = map_at f xs i so h

  pub many_at : (n : ℕ) (x : A) (i : ℕ) → P x → P d → P (get_or (replicate n x) i d)
  many_at zero x i new old = old
  many_at (suc n) x zero new old = new
  many_at (suc n) x (suc i) new old = many_at n x i new old

  pub all_of_each : (xs : List A) → Each xs → AllByRecursion P xs
  all_of_each [] all = tt
  all_of_each (x ∷ xs) all = (all 0, all_of_each xs (λ i. all (suc i)))

-- a place of a list in which one was set: it is as it was, or it is that one
pub data Placed {A : Type 0} (d : A) (xs : List A) (j : ℕ) (x : A) (i : ℕ) : Type 0 where
  is_old : get_or (slice_set xs j x) i d ≡ get_or xs i d → Placed d xs j x i
  is_new : i ≡ j → get_or (slice_set xs j x) i d ≡ x → Placed d xs j x i

next_place : {A : Type 0} (d first : A) (xs : List A) (j : ℕ) (x : A) (i : ℕ) → Placed d xs j x i → Placed d (first ∷ xs) (suc j) x (suc i)
next_place d first xs j x i (is_old same) = is_old same
next_place d first xs j x i (is_new here is) = is_new (ap suc here) is

pub placed : {A : Type 0} (d : A) (xs : List A) (j : ℕ) (x : A) (i : ℕ) → Placed d xs j x i
placed d [] j x i = is_old refl
placed d (first ∷ xs) zero x zero = is_new refl refl
placed d (first ∷ xs) zero x (suc i) = is_old refl
placed d (first ∷ xs) (suc j) x zero = is_old refl
placed d (first ∷ xs) (suc j) x (suc i) = next_place d first xs j x i (placed d xs j x i)
