-- The thread that is picked, by the slots from which the threads are rested: it is the one of the definitions, and no other.
use Rattle.std.proofs.Common.{ℕ, zero, suc, ◌≡◌, ◌+◌, ◌<◌, ◌≤◌, Bool, true, false, Option, Some, None, List, [], ◌∷◌, length, get_or, refl, ap, sym, ◌∙◌, arith}
use Rattle.std.proofs.lemmas.Bool.{lt-ltb, le-ltb, cond-true, cond-false, cond_both}
use Rattle.xs_model.specs.Picks.{is_earlier, earliest, best_from, number_of_best, pick}
use Rattle.thread_slots.specs.Turns.{rested_from}

-- ---- the earlier of two last issues is the one that is rested from an earlier slot

pub earlier_from : (a b : Option ℕ) → rested_from a < rested_from b → is_earlier a b ≡ true
earlier_from None None h = absurd (omega arith)
earlier_from None (Some b) h = refl
earlier_from (Some a) None h = absurd (omega arith)
earlier_from (Some a) (Some b) h = lt-ltb a b (omega arith)

pub not_earlier_from : (a b : Option ℕ) → rested_from b ≤ rested_from a → is_earlier a b ≡ false
not_earlier_from None None h = refl
not_earlier_from None (Some b) h = absurd (omega arith)
not_earlier_from (Some a) None h = refl
not_earlier_from (Some a) (Some b) h = le-ltb a b (omega arith)

-- ---- the best of a list of last issues

abbrev pub rest_at : List (Option ℕ) → ℕ → ℕ
rest_at lasts i = rested_from (get_or lasts i None)

-- place i is the best of those that may be picked
pub record IsBestAt (may : ℕ → Bool) (lasts : List (Option ℕ)) (i : ℕ) : Type 0 where
  pub within : i < length lasts
  pub allowed : may i ≡ true
  pub least : (j : ℕ) → j < length lasts → may j ≡ true → rest_at lasts i ≤ rest_at lasts j
  pub lowest : (j : ℕ) → j < i → may j ≡ true → rest_at lasts i < rest_at lasts j

pub same_best : (may other : ℕ → Bool) (lasts : List (Option ℕ)) (i : ℕ) → ((j : ℕ) → j < length lasts → other j ≡ may j) → IsBestAt may lasts i → IsBestAt other lasts i
same_best may other lasts i same b = record {
  within = b.within;
  allowed = same i b.within ∙ b.allowed;
  least = λ j h m. b.least j h (sym (same j h) ∙ m);
  lowest = λ j h m. b.lowest j h (sym (same j (omega (arith, b.within))) ∙ m);
}

-- the step from the threads after number k to those from k on: places move up by one
same_place : (may : ℕ → Bool) (k j : ℕ) → may (k + suc j) ≡ may (suc k + j)
same_place may k j = let e : k + suc j ≡ suc k + j = omega arith in ap may e

first_place : (may : ℕ → Bool) (k : ℕ) → may (k + 0) ≡ may k
first_place may k = let e : k + 0 ≡ k = omega arith in ap may e

best_after : (may : ℕ → Bool) (k : ℕ) (last : Option ℕ) (rest : List (Option ℕ)) (i : ℕ) → IsBestAt (λ j. may (k + j)) (last ∷ rest) (suc i) → IsBestAt (λ j. may (suc k + j)) rest i
best_after may k last rest i b = record {
  within = omega (arith, b.within);
  allowed = sym (same_place may k i) ∙ b.allowed;
  least = λ j h m. b.least (suc j) (omega arith) (same_place may k j ∙ m);
  lowest = λ j h m. b.lowest (suc j) (omega arith) (same_place may k j ∙ m);
}

-- ---- `best_from` gives only a thread that may be picked

abbrev IsAllowed : (ℕ → Bool) → ℕ → List (Option ℕ) → Option (ℕ × Option ℕ) → Type 0
IsAllowed may k lasts None = Unit {0}
IsAllowed may k lasts (Some best) =
    (j : ℕ) × (j < length lasts) × (may (k + j) ≡ true) × (best.1 ≡ get_or lasts j None)

allowed_after : (may : ℕ → Bool) (k : ℕ) (last : Option ℕ) (rest : List (Option ℕ)) (others : Option (ℕ × Option ℕ)) → IsAllowed may (suc k) rest others → IsAllowed may k (last ∷ rest) others
allowed_after may k last rest None a = tt
allowed_after may k last rest (Some best) (j, h, m, e) = (suc j, omega arith, same_place may k j ∙ m, e)

earliest_allowed : (may : ℕ → Bool) (k : ℕ) (last : Option ℕ) (rest : List (Option ℕ)) (others : Option (ℕ × Option ℕ)) → may k ≡ true → IsAllowed may (suc k) rest others → IsAllowed may k (last ∷ rest) (Some (earliest k last others))
earliest_allowed may k last rest None its a = (0, omega arith, first_place may k ∙ its, refl)
earliest_allowed may k last rest (Some best) its a =
    cond_both (is_earlier best.1 last) best (k, last) (λ b. IsAllowed may k (last ∷ rest) (Some b)) (λ _. allowed_after may k last rest (Some best) a) (λ _. (0, omega arith, first_place may k ∙ its, refl))

best_allowed : (may : ℕ → Bool) (k : ℕ) (lasts : List (Option ℕ)) → IsAllowed may k lasts (best_from may k lasts)
unfolding best_from
best_allowed may k [] = tt
best_allowed may k (last ∷ rest) =
    let others : Option (ℕ × Option ℕ) = best_from may (suc k) rest in
    let allowed : IsAllowed may (suc k) rest others = best_allowed may (suc k) rest in
    cond_both (may k) (Some (earliest k last others)) others (IsAllowed may k (last ∷ rest)) (λ its. earliest_allowed may k last rest others its allowed) (λ _. allowed_after may k last rest others allowed)

-- ---- and it gives the best

first_is_earliest : (may : ℕ → Bool) (k : ℕ) (last : Option ℕ) (rest : List (Option ℕ)) (others : Option (ℕ × Option ℕ)) → ((j : ℕ) → j < length rest → may (suc k + j) ≡ true → rested_from last ≤ rest_at rest j) → IsAllowed may (suc k) rest others → earliest k last others ≡ (k, last)
first_is_earliest may k last rest None least a = refl
first_is_earliest may k last rest (Some best) least (j, h, m, e) =
    cond-false _ best (k, last) (not_earlier_from best.1 last (omega (arith, least j h m, ap rested_from e)))

best_at : (may : ℕ → Bool) (k : ℕ) (lasts : List (Option ℕ)) (i : ℕ) → IsBestAt (λ j. may (k + j)) lasts i → best_from may k lasts ≡ Some (k + i, get_or lasts i None)
unfolding best_from
best_at may k [] i b = absurd (omega (arith, b.within))
best_at may k (last ∷ rest) zero b =
    let number : k + 0 ≡ k = omega arith in
    cond-true _ _ _ (sym (first_place may k) ∙ b.allowed)
    ∙ ap Some (first_is_earliest may k last rest (best_from may (suc k) rest) (λ j h m. b.least (suc j) (omega arith) (same_place may k j ∙ m)) (best_allowed may (suc k) rest))
    ∙ ap (λ n. Some (n, last)) (sym number)
best_at may k (last ∷ rest) (suc i) b =
    let best : ℕ × Option ℕ = (k + suc i, get_or rest i None) in
    let number : suc k + i ≡ k + suc i = omega arith in
    let others : best_from may (suc k) rest ≡ Some best =
    best_at may (suc k) rest i (best_after may k last rest i b) ∙ ap (λ n. Some (n, get_or rest i None)) number
    in
    cond_both (may k) (Some (earliest k last (best_from may (suc k) rest))) (best_from may (suc k) rest) (λ o. o ≡ Some best) (λ its. ap (λ o. Some (earliest k last o)) others ∙ ap Some (cond-true _ best (k, last) (earlier_from best.1 last (b.lowest 0 (omega arith) (first_place may k ∙ its))))) (λ _. others)

none_from : (may : ℕ → Bool) (k : ℕ) (lasts : List (Option ℕ)) → ((j : ℕ) → j < length lasts → may (k + j) ≡ false) → best_from may k lasts ≡ None
unfolding best_from
none_from may k [] none = refl
none_from may k (last ∷ rest) none =
    cond-false _ _ _ (sym (first_place may k) ∙ none 0 (omega arith)) ∙ none_from may (suc k) rest (λ j h. sym (same_place may k j) ∙ none (suc j) (omega arith))

-- ---- what `pick` gives

at_zero : (may : ℕ → Bool) (j : ℕ) → may (0 + j) ≡ may j
at_zero may j = let e : 0 + j ≡ j = omega arith in ap may e

pub pick_at : (may : ℕ → Bool) (lasts : List (Option ℕ)) (i : ℕ) → IsBestAt may lasts i → pick may lasts ≡ Some i
pick_at may lasts i b =
    let number : 0 + i ≡ i = omega arith in
    ap number_of_best (best_at may 0 lasts i (same_best may _ lasts i (λ j _. at_zero may j) b)) ∙ ap Some number

pub pick_none : (may : ℕ → Bool) (lasts : List (Option ℕ)) → ((j : ℕ) → j < length lasts → may j ≡ false) → pick may lasts ≡ None
pick_none may lasts none = ap number_of_best (none_from may 0 lasts (λ j h. at_zero may j ∙ none j h))
