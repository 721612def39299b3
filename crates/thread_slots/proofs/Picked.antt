-- Of the threads of a mask the least turn tells which is picked, and whether one is: where it is not rested, none is.
use Rattle.std.proofs.Common.{ℕ, ◌≡◌, ◌+◌, ◌*◌, ◌/◌, ◌%◌, ◌^◌, ◌<◌, ◌≤◌, Bool, true, false, Option, Some, None, List, length, map, get_or, refl, ap, sym, subst, ◌∙◌, arith, inl, inr}
use Rattle.std.proofs.Math.ListN.{get_or-map}
use Rattle.std.proofs.lemmas.List.{length-map}
use Rattle.std.proofs.lemmas.Bool.{le-leb, lt-leb, and_parts, and_from, and_left, and_right, cases_Bool}
use Rattle.xs_model.specs.Picks.{is_rested, is_earlier, pick}
use Rattle.xs_model.specs.Masks.{in_mask}
use Rattle.thread_slots.specs.Able.{may_pick}
use Rattle.thread_slots.specs.Turns.{rested_from, turn_of, last_in, AreTurns, IsLeast}
use Rattle.thread_slots.proofs.Best.{IsBestAt, rest_at, same_best, pick_at, pick_none, earlier_from, not_earlier_from}

pub rested_if : (last : Option ℕ) (slot : ℕ) → rested_from last ≤ slot → is_rested last slot ≡ true
rested_if None slot h = refl
rested_if (Some last) slot h = le-leb (last + 4) slot h

pub not_rested_if : (last : Option ℕ) (slot : ℕ) → slot < rested_from last → is_rested last slot ≡ false
not_rested_if None slot h = absurd (omega arith)
not_rested_if (Some last) slot h = lt-leb (last + 4) slot h

-- the turn of a thread, by its last issue
pub turn_at : (turns : List ℕ) (k : ℕ) → AreTurns turns → k < 8 → get_or turns k 0 ≡ 8 * rest_at (map last_in turns) k + k
turn_at turns k are h =
    (are.each k (omega (arith, are.threads))).its ∙ ap (turn_of k) (sym (get_or-map last_in turns k 0))

-- the thread of the least turn, where it is rested, is the best
pub best_of_least : (able slot turn : ℕ) (turns : List ℕ) → AreTurns turns → IsLeast (in_mask able) turns turn → slot < 2 ^ 32 → turn / 8 ≤ slot → IsBestAt (may_pick able (map last_in turns) slot) (map last_in turns) (turn % 8)
best_of_least able slot turn turns are is fits rested =
    let lasts : List (Option ℕ) = map last_in turns in
    let w = is.its (omega arith) in
    let k : ℕ = w.0 in
    let turn_is : turn ≡ 8 * rest_at lasts k + k = w.3 ∙ turn_at turns k are w.1 in
    let number : k ≡ turn % 8 = omega (arith, w.1) in
    let threads : length lasts ≡ 8 = length-map turns last_in ∙ are.threads in
    let bound : (j : ℕ) → j < 8 → may_pick able lasts slot j ≡ true → turn ≤ 8 * rest_at lasts j + j =
    λ j h may. omega (arith, is.least j h (and_parts _ _ may).0, turn_at turns j are h)
    in
    let best : IsBestAt (may_pick able lasts slot) lasts k = record {
      within = omega (arith, w.1);
      allowed = and_from _ _ w.2 (rested_if (get_or lasts k None) slot (omega (arith, w.1)));
      least = λ j h may. omega (arith, w.1, bound j (omega arith) may);
      lowest = λ j h may. omega (arith, w.1, bound j (omega (arith, w.1)) may);
    }
    in
    subst (IsBestAt (may_pick able lasts slot) lasts) number best

-- where the thread of the least turn is not rested, no able one is: their turns are no less
pub none_of_least : (able slot turn : ℕ) (turns : List ℕ) → AreTurns turns → IsLeast (in_mask able) turns turn → slot < turn / 8 → (k : ℕ) → k < 8 → may_pick able (map last_in turns) slot k ≡ false
none_of_least able slot turn turns are is not k h =
    let last : Option ℕ = get_or (map last_in turns) k None in
    elim (cases_Bool (in_mask able k)) [
      | inl its ↦ and_right _ _ (not_rested_if last slot (omega (arith, is.least k h its, turn_at turns k are h)))
      | inr out ↦ and_left _ _ out
    ]

-- ---- the clauses of `pick`

pub record IsPicked (able slot : ℕ) (lasts : List (Option ℕ)) (k : ℕ) : Type 0 where
  pub value : (may : ℕ → Bool) → ((j : ℕ) → j < 8 → may j ≡ may_pick able lasts slot j) → Some k ≡ pick may lasts
  pub rested : is_rested (get_or lasts k None) slot ≡ true
  pub least : (j : ℕ) → j < 8 → may_pick able lasts slot j ≡ true → is_earlier (get_or lasts j None) (get_or lasts k None) ≡ false
  pub lowest : (j : ℕ) → j < k → may_pick able lasts slot j ≡ true → is_earlier (get_or lasts k None) (get_or lasts j None) ≡ true

pub picked : (able slot : ℕ) (lasts : List (Option ℕ)) (k : ℕ) → length lasts ≡ 8 → IsBestAt (may_pick able lasts slot) lasts k → IsPicked able slot lasts k
picked able slot lasts k threads b = record {
  value = λ may same. sym (pick_at may lasts k (same_best _ may lasts k (λ j h. same j (omega arith)) b));
  rested = (and_parts _ _ b.allowed).1;
  least = λ j h may. not_earlier_from _ _ (b.least j (omega arith) may);
  lowest = λ j h may. earlier_from _ _ (b.lowest j h may);
}

pub none_picked : (able slot : ℕ) (lasts : List (Option ℕ)) → length lasts ≡ 8 → ((k : ℕ) → k < 8 → may_pick able lasts slot k ≡ false) → (may : ℕ → Bool) → ((j : ℕ) → j < 8 → may j ≡ may_pick able lasts slot j) → ◌≡◌ {A = Option ℕ} None (pick may lasts)
none_picked able slot lasts threads none may same =
    sym (pick_none may lasts (λ j h. same j (omega arith) ∙ none j (omega arith)))
