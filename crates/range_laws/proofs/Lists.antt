-- What is so of each element of a list, where the list changes.
use Rattle.std.proofs.Common.{ℕ, zero, suc, List, [], ◌∷◌, ◌++◌, map, take, drop, get_or, slice_set, replicate, ◌∙◌, length-set}
use Rattle.std.specs.List.{AllByRecursion}
use Rattle.std.proofs.lemmas.List.{length-map}
use Rattle.state_bridge.specs.Fits.{AreSuch}

module _ {A : Type 0} (P : A → Type 0) where
  pub all_joined : (xs ys : List A) → AllByRecursion P xs → AllByRecursion P ys → AllByRecursion P (xs ++ ys)
  all_joined [] ys one other = other
  all_joined (x ∷ xs) ys one other = (one.0, all_joined xs ys one.1 other)

  pub all_dropped : (n : ℕ) (xs : List A) → AllByRecursion P xs → AllByRecursion P (drop n xs)
  all_dropped zero xs all = all
  all_dropped (suc n) [] all = all
  all_dropped (suc n) (x ∷ xs) all = all_dropped n xs all.1

  pub all_taken : (n : ℕ) (xs : List A) → AllByRecursion P xs → AllByRecursion P (take n xs)
  all_taken zero xs all = tt
  all_taken (suc n) [] all = tt
  all_taken (suc n) (x ∷ xs) all = (all.0, all_taken n xs all.1)

  pub all_set : (xs : List A) (i : ℕ) (x : A) → P x → AllByRecursion P xs → AllByRecursion P (slice_set xs i x)
  all_set [] i x new all = tt
  all_set (y ∷ xs) zero x new all = (new, all.1)
  all_set (y ∷ xs) (suc i) x new all = (all.0, all_set xs i x new all.1)

  pub all_at : (d : A) → P d → (xs : List A) (i : ℕ) → AllByRecursion P xs → P (get_or xs i d)
  all_at d old [] i all = old
  all_at d old (x ∷ xs) zero all = all.0
  all_at d old (x ∷ xs) (suc i) all = all_at d old xs i all.1

  pub all_many : (n : ℕ) (x : A) → P x → AllByRecursion P (replicate n x)
  all_many zero x new = tt
  all_many (suc n) x new = (new, all_many n x new)

  pub all_changed : (f : A → A) → ((x : A) → P x → P (f x)) → (xs : List A) → AllByRecursion P xs → AllByRecursion P (map f xs)
  all_changed f so [] all = tt
  all_changed f so (x ∷ xs) all = (so x all.0, all_changed f so xs all.1)

-- what is so of what is made of each element
pub all_made : {A B : Type 0} (P : A → Type 0) (Q : B → Type 0) (f : A → B) → ((x : A) → P x → Q (f x)) → (xs : List A) → AllByRecursion P xs → AllByRecursion Q (map f xs)
all_made P Q f so [] all = tt
all_made P Q f so (x ∷ xs) all = (so x all.0, all_made P Q f so xs all.1)

-- ---- What is so at each place, where the list ends by this

module _ {A : Type 0} (P : A → Type 0) (d : A) where
  pub set_at : (xs : List A) (j : ℕ) (x : A) (i : ℕ) → P x → P (get_or xs i d) → P (get_or (slice_set xs j x) i d)
  set_at [] j x i new old = old
  set_at (y ∷ xs) zero x zero new old = new
  set_at (y ∷ xs) zero x (suc i) new old = old
  set_at (y ∷ xs) (suc j) x zero new old = old
  set_at (y ∷ xs) (suc j) x (suc i) new old = set_at xs j x i new old

  pub many_at : (n : ℕ) (x : A) (i : ℕ) → P x → P d → P (get_or (replicate n x) i d)
  many_at zero x i new old = old
  many_at (suc n) x zero new old = new
  many_at (suc n) x (suc i) new old = many_at n x i new old

-- ---- So many elements

module _ {A : Type 0} (P : A → Type 0) (many : ℕ) where
  pub such_set : (xs : List A) (i : ℕ) (x : A) → P x → AreSuch P many xs → AreSuch P many (slice_set xs i x)
  such_set xs i x new h = record { count = length-set xs i x ∙ h.count; each = all_set P xs i x new h.each }

  pub such_changed : (f : A → A) → ((x : A) → P x → P (f x)) → (xs : List A) → AreSuch P many xs → AreSuch P many (map f xs)
  such_changed f so xs h = record { count = length-map xs f ∙ h.count; each = all_changed P f so xs h.each }
