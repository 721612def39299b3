-- What holds at each place of a list, where one place changes or one more is put after the others.
use Rattle.std.proofs.Common.{◌≡◌, ◌≢◌, ℕ, suc, ◌+◌, ◌<◌, List, [], ◌∷◌, ◌++◌, length, map, replicate, get_or, set, refl, sym, ap, ◌∙◌, subst, arith, inl, inr}
use mathlib.Core.Logic.{◌⊎◌}
use Rattle.std.proofs.lemmas.Bool.{cases_eq}
use Rattle.std.proofs.lemmas.List.{get_or-set_same, get_or-set_other, length-set, get_or_push, get_or_append_left, length_push}
use Rattle.plan_lanes.specs.Lanes.{AllAt}

-- one place changes, and at the others what held before gives what holds now
module _ {X : Type 0} (P Q : ℕ → X → Type 0) (xs : List X) (i : ℕ) (y : X) (all : AllAt P xs) (others : (k : ℕ) (x : X) → k ≢ i → P k x → Q k x) (here : Q i y) where
  at_place : (k : ℕ) (x : X) → k < length xs → (k ≡ i) ⊎ (k ≡ i → ⊥) → Q k (get_or (set xs i y) k x)
  at_place k x below (inl same) =
      let inside : i < length xs = omega (arith, same) in
      let is : get_or (set xs i y) k x ≡ y = ap (λ j. get_or (set xs i y) j x) same ∙ get_or-set_same xs i y x inside in
      subst (λ v. Q k v) (sym is) (subst (λ j. Q j y) (sym same) here)
  at_place k x below (inr other) =
      subst (λ v. Q k v) (sym (get_or-set_other xs i k y x other)) (others k (get_or xs k x) other (all k x below))

  pub all_at_set : AllAt Q (set xs i y)
  all_at_set k x below = at_place k x (omega (arith, length-set xs i y)) (cases_eq k i)

module _ {X : Type 0} (P : ℕ → X → Type 0) (xs : List X) (y : X) (all : AllAt P xs) (here : P (length xs) y) where
  at_push : (k : ℕ) (x : X) → k < length xs + 1 → (k ≡ length xs) ⊎ (k ≡ length xs → ⊥) → P k (get_or (xs ++ y ∷ []) k x)
  at_push k x below (inl same) =
      subst (λ v. P k v) (sym (get_or_push xs y x k (sym same))) (subst (λ j. P j y) (sym same) here)
  at_push k x below (inr other) =
      let inside : k < length xs = omega arith in
      subst (λ v. P k v) (sym (get_or_append_left xs (y ∷ []) x k inside)) (all k x inside)

  pub all_at_push : AllAt P (xs ++ y ∷ [])
  all_at_push k x below = at_push k x (omega (arith, length_push xs y)) (cases_eq k (length xs))

-- a number of each element that is 0 everywhere
pub map_none : {X : Type 0} (f : X → ℕ) (xs : List X) → AllAt (λ k x. f x ≡ 0) xs → map f xs ≡ replicate (length xs) 0
map_none f [] all = refl
map_none f (x ∷ xs) all =
    let first : f x ≡ 0 = all 0 x (omega arith) in
    let rest = map_none f xs (λ k y below. all (suc k) y (omega arith)) in
    λ i. first i ∷ rest i
