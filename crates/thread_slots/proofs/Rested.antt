-- Whether a thread of a mask is rested, by the turns of its threads, and the first slot in which one is, by their least.
use Rattle.std.proofs.Common.{ℕ, zero, suc, ◌≡◌, ◌+◌, ◌*◌, ◌/◌, ◌%◌, ◌^◌, ◌<◌, ◌≤◌, min, max, Bool, true, false, None, List, map, get_or, refl, ap, sym, ◌∙◌, inl, inr, arith}
use Rattle.std.specs.List.{list_any}
use Rattle.std.proofs.lemmas.Bool.{cases_lt, cases_Bool, and_from, and_left, and_right}
use Rattle.std.proofs.lemmas.List.Elements.{All-from_get_or}
use Rattle.std.proofs.lemmas.List.Folds.{list_any_at, list_any_none}
use Rattle.xs_model.specs.Masks.{in_mask}
use Rattle.quiet_model.specs.Slots.{IsFirst}
use Rattle.quiet_model.specs.Stirs.{thread_numbers}
use Rattle.thread_slots.specs.Able.{may_pick, some_may_pick}
use Rattle.thread_slots.specs.Turns.{last_in, AreTurns, IsLeast}
use Rattle.thread_slots.proofs.Picked.{rested_if, not_rested_if, turn_at, best_of_least, none_of_least}

number_at : (k : ℕ) → k < 8 → get_or thread_numbers k 0 ≡ k
number_at zero h = refl
number_at (suc zero) h = refl
number_at (suc (suc zero)) h = refl
number_at (suc (suc (suc zero))) h = refl
number_at (suc (suc (suc (suc zero)))) h = refl
number_at (suc (suc (suc (suc (suc zero))))) h = refl
number_at (suc (suc (suc (suc (suc (suc zero)))))) h = refl
number_at (suc (suc (suc (suc (suc (suc (suc zero))))))) h = refl
number_at (suc (suc (suc (suc (suc (suc (suc (suc k)))))))) h = absurd (omega arith)

some_of : (test : ℕ → Bool) (k : ℕ) → k < 8 → test k ≡ true → list_any test thread_numbers ≡ true
some_of test k h passes = list_any_at test thread_numbers k 0 h (ap test (number_at k h) ∙ passes)

none_of : (test : ℕ → Bool) → ((k : ℕ) → k < 8 → test k ≡ false) → list_any test thread_numbers ≡ false
none_of test none =
    list_any_none test thread_numbers (All-from_get_or (λ k. test k ≡ false) thread_numbers 0 (λ k h. ap test (number_at k h) ∙ none k h))

-- a search for a turn before the first turn of the next slot tells it
pub any_rested : (able slot end : ℕ) (result : Bool) (turns : List ℕ) → AreTurns turns → end ≡ 8 * (slot + 1) → (result ≡ true → (k : ℕ) × (k < 8) × (in_mask able k ≡ true) × (get_or turns k 0 < end)) → (result ≡ false → (k : ℕ) → k < 8 → in_mask able k ≡ true → end ≤ get_or turns k 0) → result ≡ some_may_pick able (map last_in turns) slot
any_rested able slot end true turns are is some none =
    let w = some refl in
    sym (some_of (may_pick able (map last_in turns) slot) w.0 w.1 (and_from _ _ w.2 (rested_if (get_or (map last_in turns) w.0 None) slot (omega (arith, is, w.3, turn_at turns w.0 are w.1)))))
any_rested able slot end false turns are is some none =
    sym (none_of (may_pick able (map last_in turns) slot) (λ k h.
    elim (cases_Bool (in_mask able k)) [
      | inl its ↦ and_right _ _ (not_rested_if (get_or (map last_in turns) k None) slot (omega (arith, is, none refl k h its, turn_at turns k are h)))
      | inr out ↦ and_left _ _ out
    ]))

pub first_rested : (able from bound turn result : ℕ) (turns : List ℕ) → AreTurns turns → IsLeast (in_mask able) turns turn → bound < 2 ^ 32 → result ≡ min (max (turn / 8) from) bound → IsFirst (some_may_pick able (map last_in turns)) from bound result
first_rested able from bound turn result turns are is fits its = record {
  none_before = λ slot after before. none_of (may_pick able (map last_in turns) slot) (none_of_least able slot turn turns are is (omega arith));
  there =
      elim (cases_lt result bound) [
        | inl less ↦
            inl (omega arith, less, some_of (may_pick able (map last_in turns) result) (turn % 8) (omega arith) (best_of_least able result turn turns are is (omega arith) (omega arith)).allowed)
        | inr more ↦ inr (omega arith)
      ];
}
