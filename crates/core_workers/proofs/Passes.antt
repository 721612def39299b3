-- A pass over a list that changes one place after the other, and what it leaves beside what was there.
use Rattle.std.proofs.Common.{◌≡◌, ◌≢◌, ℕ, zero, suc, ◌+◌, ◌<◌, Some, List, [], ◌∷◌, ◌++◌, length, take, drop, get_or, set, slice_get, refl, sym, ap, ◌∙◌, subst, arith, inl, inr}
use mathlib.Core.Logic.{◌⊎◌}
use Rattle.std.specs.List.{All, AllZip}
use Rattle.std.proofs.lemmas.Bool.{cases_eq}
use Rattle.std.proofs.lemmas.List.{get_or-set_same, get_or-set_other, length-set, get_or-drop, drop-drop, drop-set-lt, take_more_set, length-drop, take_at}
use Rattle.std.proofs.lemmas.Option.{same_Some, slice_get-get_or, get_or_from_slice_get}
use Rattle.std.proofs.lemmas.List.Elements.{all_zip_more}

-- ---- Where one place changes

module _ {X : Type 0} where
  pub slice_get-set_same : (xs : List X) (i : ℕ) (y : X) → i < length xs → slice_get (set xs i y) i ≡ Some y
  slice_get-set_same [] i y below = absurd (omega arith)
  slice_get-set_same (x ∷ xs) zero y below = refl
  slice_get-set_same (x ∷ xs) (suc i) y below = slice_get-set_same xs i y (omega arith)

  pub slice_get-set_other : (xs : List X) (i k : ℕ) (y : X) → k ≢ i → slice_get (set xs i y) k ≡ slice_get xs k
  slice_get-set_other [] i k y apart = refl
  slice_get-set_other (x ∷ xs) zero zero y apart = absurd (apart refl)
  slice_get-set_other (x ∷ xs) zero (suc k) y apart = refl
  slice_get-set_other (x ∷ xs) (suc i) zero y apart = refl
  slice_get-set_other (x ∷ xs) (suc i) (suc k) y apart = slice_get-set_other xs i k y (λ is. apart (ap suc is))

  -- what holds of each holds after the change, where it holds of what stands there now and goes on to hold of the others
  module _ (P Q : X → Type 0) (xs : List X) (i : ℕ) (y : X) (within : i < length xs) (all : All P xs) (here : Q y)
      (others : (k : ℕ) (x : X) → k ≢ i → slice_get xs k ≡ Some x → P x → Q x) where
    at_place : (k : ℕ) (d : X) → k < length xs → (k ≡ i) ⊎ (k ≡ i → ⊥) → Q (get_or (set xs i y) k d)
    at_place k d below (inl same) =
        let is : get_or (set xs i y) k d ≡ y = ap (λ j. get_or (set xs i y) j d) same ∙ get_or-set_same xs i y d within in
        subst Q (sym is) here
    at_place k d below (inr other) =
        subst Q (sym (get_or-set_other xs i k y d other)) (others k (get_or xs k d) other (slice_get-get_or xs k d below) (all k d below))

    pub all_at_set : All Q (set xs i y)
    all_at_set k d below = at_place k d (omega (arith, length-set xs i y)) (cases_eq k i)

-- ---- A list beside what it was

module _ {X : Type 0} (R : X → X → Type 0) where
  pub all_zip_refl : ((x : X) → R x x) → (xs : List X) → AllZip R xs xs
  all_zip_refl self [] = tt
  all_zip_refl self (x ∷ xs) = (self x, all_zip_refl self xs)

  pub all_zip_then : ((x y z : X) → R x y → R y z → R x z) → (xs ys zs : List X) → AllZip R xs ys → AllZip R ys zs → AllZip R xs zs
  all_zip_then on [] [] zs first then = then
  all_zip_then on [] (y ∷ ys) zs first then = absurd first
  all_zip_then on (x ∷ xs) [] zs first then = absurd first
  all_zip_then on (x ∷ xs) (y ∷ ys) [] first then = then
  all_zip_then on (x ∷ xs) (y ∷ ys) (z ∷ zs) first then = (on x y z first.0 then.0, all_zip_then on xs ys zs first.1 then.1)

  pub all_zip_set : (old now : List X) (i : ℕ) (x y : X) → AllZip R old now → slice_get old i ≡ Some x → R x y → AllZip R old (set now i y)
  all_zip_set [] [] i x y all at r = tt
  all_zip_set [] (b ∷ now) i x y all at r = absurd all
  all_zip_set (a ∷ old) [] i x y all at r = absurd all
  all_zip_set (a ∷ old) (b ∷ now) zero x y all at r = (subst (λ v. R v y) (sym (same_Some a x at)) r, all.1)
  all_zip_set (a ∷ old) (b ∷ now) (suc i) x y all at r = (all.0, all_zip_set old now i x y all.1 at r)

  pub all_zip_front : (old now : List X) (i : ℕ) (x y : X) → i < length old → i < length now → slice_get old i ≡ Some x → AllZip R (take i old) (take i now) → R x y
      → AllZip R (take (i + 1) old) (take (i + 1) (set now i y))
  all_zip_front old now i x y within inside at all r =
      let is : x ≡ get_or old i x = sym (get_or_from_slice_get old i x x at) in
      subst (λ ys. AllZip R (take (i + 1) old) ys) (sym (take_more_set now i y inside)) (all_zip_more R old (take i now) i x y within is all r)

pub all_zip_weaker : {X : Type 0} (R S : X → X → Type 0) → ((x y : X) → R x y → S x y) → (xs ys : List X) → AllZip R xs ys → AllZip S xs ys
all_zip_weaker R S says [] [] all = tt
all_zip_weaker R S says [] (y ∷ ys) all = absurd all
all_zip_weaker R S says (x ∷ xs) [] all = absurd all
all_zip_weaker R S says (x ∷ xs) (y ∷ ys) all = (says x y all.0, all_zip_weaker R S says xs ys all.1)

-- ---- Places that are still to come

module _ {X : Type 0} (old now : List X) (i : ℕ) (left : drop i now ≡ drop i old) where
  pub still_here : (d : X) → get_or now i d ≡ get_or old i d
  still_here d =
      let zero_on : i + 0 ≡ i = omega arith in
      sym (ap (λ k. get_or now k d) zero_on) ∙ sym (get_or-drop i now 0 d) ∙ ap (λ ys. get_or ys 0 d) left ∙ get_or-drop i old 0 d ∙ ap (λ k. get_or old k d) zero_on

  pub left_after : (y : X) → drop (i + 1) (set now i y) ≡ drop (i + 1) old
  left_after y =
      drop-set-lt (i + 1) now i y (omega arith) ∙ sym (drop-drop 1 i now) ∙ ap (drop 1) left ∙ drop-drop 1 i old

  -- what stands now at the place where the pass is stood there before
  pub at_both : (d : X) → i < length now → slice_get old i ≡ Some (get_or now i d)
  at_both d within =
      let count : length (drop i now) ≡ length (drop i old) = ap length left in
      let inside : i < length old = omega (arith, count, within, length-drop i now, length-drop i old) in
      slice_get-get_or old i d inside ∙ ap (λ x. Some x) (sym (still_here d))

-- a part of a list that was lent and given back
pub given_back : {X : Type 0} (len : ℕ) (lent rest : List X) → length lent ≡ len → take len (lent ++ rest) ≡ lent
given_back len lent rest is = take_at lent rest len is
