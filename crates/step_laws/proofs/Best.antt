-- The thread that is picked comes before every other that may be: its last issue is earlier, or its number lower.
use Rattle.std.proofs.Common.{◌≡◌, ℕ, zero, suc, ◌+◌, ◌<◌, ◌≤◌, Bool, true, false, if◌then◌else◌, Option, Some, None, List, [], ◌∷◌, length, get_or, refl, ap, sym, ◌∙◌, arith}
use Rattle.std.proofs.lemmas.Bool.{ltb-true, ltb-false, both_ways}
use Rattle.xs_base.specs.Numbers.{Slot, ThreadNumber}
use Rattle.xs_model.specs.Picks.{is_earlier, earliest, best_from}

-- last issues as numbers: never is 0
abbrev pub rank : Option Slot → ℕ
rank None = 0
rank (Some slot) = suc slot

rank_if_earlier : (a b : Option Slot) → is_earlier a b ≡ true → rank a < rank b
rank_if_earlier None None h = cc
rank_if_earlier None (Some b) h = omega arith
rank_if_earlier (Some a) None h = cc
rank_if_earlier (Some a) (Some b) h = omega (arith, ltb-true a b h)

rank_if_not : (a b : Option Slot) → is_earlier a b ≡ false → rank b ≤ rank a
rank_if_not None None h = omega arith
rank_if_not None (Some b) h = cc
rank_if_not (Some a) None h = omega arith
rank_if_not (Some a) (Some b) h = omega (arith, ltb-false a b h)

-- place p of last issues comes no later than place i
pub record IsFirst (lasts : List (Option Slot)) (p i : ℕ) : Type 0 where
  pub least : rank (get_or lasts p None) ≤ rank (get_or lasts i None)
  pub lowest : i < p → rank (get_or lasts p None) < rank (get_or lasts i None)

-- the best of the threads from number n on has place p of their last issues
pub record IsBestAt (may : ThreadNumber → Bool) (n : ThreadNumber) (lasts : List (Option Slot)) (best : ThreadNumber × Option Slot) (p : ℕ) : Type 0 where
  pub within : p < length lasts
  pub number : best.0 ≡ n + p
  pub last : best.1 ≡ get_or lasts p None
  pub first : (i : ℕ) → i < length lasts → may (n + i) ≡ true → IsFirst lasts p i

abbrev pub IsBest : (ThreadNumber → Bool) → ThreadNumber → List (Option Slot) → Option (ThreadNumber × Option Slot) → Type 0
IsBest may n lasts None = (i : ℕ) → i < length lasts → may (n + i) ≡ false
IsBest may n lasts (Some best) = (p : ℕ) × IsBestAt may n lasts best p

module _ (may : ThreadNumber → Bool) (n : ThreadNumber) (last : Option Slot) (rest : List (Option Slot)) where
  -- the numbers of the threads after the first
  number_zero : may (n + 0) ≡ may n
  number_zero = let e : n + 0 ≡ n = omega arith in ap may e

  number_suc : (i : ℕ) → may (n + suc i) ≡ may (suc n + i)
  number_suc i = let e : n + suc i ≡ suc n + i = omega arith in ap may e

  -- none may be picked
  none_of : may n ≡ false → IsBest may (suc n) rest None → IsBest may n (last ∷ rest) None
  none_of not none zero h = number_zero ∙ not
  none_of not none (suc i) h = number_suc i ∙ none i (omega arith)

  -- the first is the best, where none after it is earlier
  first_before : ((i : ℕ) → i < length rest → may (suc n + i) ≡ true → rank last ≤ rank (get_or rest i None)) → (i : ℕ) → i < suc (length rest) → may (n + i) ≡ true → IsFirst (last ∷ rest) 0 i
  first_before h zero within m = record { least = omega arith; lowest = λ lower. absurd (omega arith) }
  first_before h (suc i) within m = record { least = h i (omega arith) (sym (number_suc i) ∙ m); lowest = λ lower. absurd (omega arith) }

  first_is : ((i : ℕ) → i < length rest → may (suc n + i) ≡ true → rank last ≤ rank (get_or rest i None)) → IsBest may n (last ∷ rest) (Some (n, last))
  first_is h = (0, record { within = omega arith; number = omega arith; last = refl; first = first_before h })

  -- the best after the first is the best, where the first may not be picked or is later
  after_before : (best : ThreadNumber × Option Slot) (p : ℕ) → IsBestAt may (suc n) rest best p → (may n ≡ true → rank best.1 < rank last) → (i : ℕ) → i < suc (length rest) → may (n + i) ≡ true → IsFirst (last ∷ rest) (suc p) i
  after_before best p b later zero within m =
      let less = later (sym number_zero ∙ m) in
      let its = ap rank b.last in record { least = omega (arith, less, its); lowest = λ lower. omega (arith, less, its) }
  after_before best p b later (suc i) within m =
      let f = b.first i (omega arith) (sym (number_suc i) ∙ m) in
      record { least = f.least; lowest = λ lower. f.lowest (omega arith) }

  after_is : (best : ThreadNumber × Option Slot) → IsBest may (suc n) rest (Some best) → (may n ≡ true → rank best.1 < rank last) → IsBest may n (last ∷ rest) (Some best)
  after_is best (p, b) later = (
    suc p,
    record {
      within = omega (arith, b.within);
      number = omega (arith, b.number);
      last = b.last;
      first = after_before best p b later;
    },
  )

  -- the better of the first and the best after it
  earliest_is : may n ≡ true → (best : ThreadNumber × Option Slot) → IsBest may (suc n) rest (Some best) → (earlier : Bool) → is_earlier best.1 last ≡ earlier → IsBest may n (last ∷ rest) (Some (if earlier then best else (n, last)))
  earliest_is its best b true is = after_is best b (λ m. rank_if_earlier best.1 last is)
  earliest_is its best (p, b) false is =
      first_is (λ i h m. omega (arith, rank_if_not best.1 last is, ap rank b.last, (b.first i h m).least))

  with_first : may n ≡ true → (others : Option (ThreadNumber × Option Slot)) → IsBest may (suc n) rest others → IsBest may n (last ∷ rest) (Some (earliest n last others))
  with_first its None none = first_is (λ i h m. absurd (both_ways _ (none i h) m))
  with_first its (Some best) b = earliest_is its best b (is_earlier best.1 last) refl

  without_first : may n ≡ false → (others : Option (ThreadNumber × Option Slot)) → IsBest may (suc n) rest others → IsBest may n (last ∷ rest) others
  without_first not None none = none_of not none
  without_first not (Some best) b = after_is best b (λ m. absurd (both_ways _ not m))

  step_is : (its : Bool) → may n ≡ its → (others : Option (ThreadNumber × Option Slot)) → IsBest may (suc n) rest others → IsBest may n (last ∷ rest) (if its then Some (earliest n last others) else others)
  step_is true is others b = with_first is others b
  step_is false is others b = without_first is others b

pub best_is_best : (may : ThreadNumber → Bool) (n : ThreadNumber) (lasts : List (Option Slot)) → IsBest may n lasts (best_from may n lasts)
unfolding best_from
best_is_best may n [] = λ i h. absurd (omega arith)
best_is_best may n (last ∷ rest) =
    step_is may n last rest (may n) refl (best_from may (suc n) rest) (best_is_best may (suc n) rest)
