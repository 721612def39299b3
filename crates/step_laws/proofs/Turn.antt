-- Where a thread that is eligible does not issue, another does that came before it, and fewer come before it then.
use Rattle.std.proofs.Common.{◌≡◌, ◌≢◌, ◌⊎◌, inl, inr, ℕ, suc, ◌+◌, ◌<◌, ◌≤◌, Bool, true, nat_lt, if◌then◌else◌, Option, Some, None, List, length, get_or, refl, ap, sym, subst, ◌∙◌, arith}
use Rattle.std.proofs.lemmas.Bool.{cases_eq, cases_lt, lt-ltb, le-ltb, leb-true, and_parts, both_ways}
use Rattle.xs_base.specs.Numbers.{Slot, ThreadNumber}
use Rattle.xs_model.specs.Record.{CoreRec, last_of}
use Rattle.xs_model.specs.Picks.{is_rested, is_able, eligible, best_from, number_of_best, picked}
use Rattle.xs_instructions.specs.declared.instr.Instr.{Instr}
use Rattle.step_model.specs.Effect.{Setting}
use Rattle.step_model.specs.Step.{issued, issued_by}
use Rattle.step_laws.proofs.Lasts.{IsSameOr, IssueLasts, issue_lasts}
use Rattle.step_laws.proofs.Best.{rank, IsFirst, IsBest, best_is_best}
use Rattle.step_laws.proofs.Before.{IsSameOrPast, count_below, count_less, count_falls}

-- a thread comes before thread k where its last issue, as a number, is below this: lower numbers come first
pub bound : ℕ → ThreadNumber → ThreadNumber → ℕ
bound r k j = if nat_lt j k then suc r else r

bound_lower : (r k j : ℕ) → j < k → bound r k j ≡ suc r
unfolding bound
bound_lower r k j h = ap (λ (lower : Bool). if lower then suc r else r) (lt-ltb j k h)

bound_other : (r k j : ℕ) → k ≤ j → bound r k j ≡ r
unfolding bound
bound_other r k j h = ap (λ (lower : Bool). if lower then suc r else r) (le-ltb j k h)

bound_most : (r k j : ℕ) → bound r k j ≤ suc r
bound_most r k j = elim (cases_lt j k) [
  | inl lower ↦ omega (arith, bound_lower r k j lower)
  | inr other ↦ omega (arith, bound_other r k j other)
]

-- in n slots thread k did not issue: its last issue is as at first, and at most 7 - n come before it
pub record Waits (first : Option Slot) (k : ThreadNumber) (n : ℕ) (lasts : List (Option Slot)) : Type 0 where
  pub eight : length lasts ≡ 8
  pub stays : get_or lasts k None ≡ first
  pub few : count_below (bound (rank first) k) lasts + n < 8

-- a thread does not come before itself
pub waits_at_first : (k : ThreadNumber) (lasts : List (Option Slot)) → k < 8 → length lasts ≡ 8 → Waits (get_or lasts k None) k 0 lasts
waits_at_first k lasts number eight =
    let r = rank (get_or lasts k None) in
    let itself = bound_other r k k (omega arith) in
    record {
      eight = eight;
      stays = refl;
      few = omega (arith, count_less (bound r k) lasts k (omega arith) (omega (arith, itself)));
    }

rank_if_rested : (last : Option Slot) (slot : Slot) → is_rested last slot ≡ true → rank last ≤ slot
rank_if_rested None slot rested = omega arith
rank_if_rested (Some last) slot rested = omega (arith, leb-true (last + 4) slot rested)

-- the slot is past every bound
past_bound : (r k slot : ℕ) (old new : List (Option Slot)) (i : ℕ) → r ≤ slot → IsSameOr slot old new i → IsSameOrPast (bound r k i) (get_or old i None) (get_or new i None)
past_bound r k slot old new i rested (inl same) = inl same
past_bound r k slot old new i rested (inr is) = inr (omega (arith, bound_most r k i, ap rank is))

-- a place that comes no later than another thread's is below its bound
first_is_below : (lasts : List (Option Slot)) (k p : ℕ) → p ≢ k → IsFirst lasts p k → rank (get_or lasts p None) < bound (rank (get_or lasts k None)) k p
first_is_below lasts k p other first = elim (cases_lt p k) [
  | inl lower ↦ omega (arith, bound_lower (rank (get_or lasts k None)) k p lower, first.least)
  | inr higher ↦
      let above : k < p = omega arith in
      omega (arith, bound_other (rank (get_or lasts k None)) k p higher, first.lowest above)
]

module _ (code : List Instr) (here : Setting) (core : CoreRec) (first : Option Slot) (k : ThreadNumber) (n : ℕ) where
  -- another thread issues, that is at place p of those that may be picked
  waits_longer : (p : ThreadNumber) → p ≢ k → p < 8 → IsFirst core.slots.last p k → is_able core k here.slot ≡ true → is_rested (last_of core k) here.slot ≡ true → Waits first k n core.slots.last → Waits first k (suc n) (issued_by code here core (Some p)).core.slots.last
  waits_longer p other number before able rested waits =
      let r = rank first in
      let after = (issued_by code here core (Some p)).core in
      let lasts : IssueLasts here.slot core after p = issue_lasts code here core p in
      let same : rank (last_of core k) ≡ r = ap rank waits.stays in
      let low : r ≤ here.slot = omega (arith, rank_if_rested (last_of core k) here.slot rested) in
      let its : rank (last_of after p) ≡ suc here.slot = ap rank (lasts.its (omega (arith, waits.eight))) in
      let was : rank (last_of core p) < bound r k p = subst (λ r. rank (last_of core p) < bound r k p) same (first_is_below core.slots.last k p other before) in
      let fewer : count_below (bound r k) after.slots.last < count_below (bound r k) core.slots.last =
      count_falls (bound r k) core.slots.last after.slots.last p lasts.as_many (λ i. past_bound r k here.slot core.slots.last after.slots.last i low (lasts.places i)) (omega (arith, waits.eight)) was (omega (arith, bound_most r k p))
      in
      record {
        eight = lasts.as_many ∙ waits.eight;
        stays = lasts.others k (λ e. other (sym e)) able ∙ waits.stays;
        few = omega (arith, waits.few);
      }

  by_best : k < 8 → eligible core k here.slot ≡ true → Waits first k n core.slots.last → (best : Option (ThreadNumber × Option Slot)) → IsBest (λ j. eligible core j here.slot) 0 core.slots.last best → (number_of_best best ≡ Some k) ⊎ Waits first k (suc n) (issued_by code here core (number_of_best best)).core.slots.last
  by_best number may waits None none =
      let zero_k : 0 + k ≡ k = omega arith in
      absurd (both_ways _ (none k (omega (arith, waits.eight))) (ap (λ j. eligible core j here.slot) zero_k ∙ may))
  by_best number may waits (Some best) (p, b) =
      let zero_k : 0 + k ≡ k = omega arith in
      let place : p ≡ best.0 = omega (arith, b.number) in
      let parts : (is_able core k here.slot ≡ true) × (is_rested (last_of core k) here.slot ≡ true) = and_parts _ _ may in
      let before : IsFirst core.slots.last best.0 k = subst (λ p. IsFirst core.slots.last p k) place (b.first k (omega (arith, waits.eight)) (ap (λ j. eligible core j here.slot) zero_k ∙ may)) in
      elim (cases_eq best.0 k) [
        | inl same ↦ inl (ap Some same)
        | inr other ↦ inr (waits_longer best.0 other (omega (arith, b.within, waits.eight)) before parts.0 parts.1 waits)
      ]

  pub issues_or_waits : k < 8 → eligible core k here.slot ≡ true → Waits first k n core.slots.last → (picked core here.slot ≡ Some k) ⊎ Waits first k (suc n) (issued code here core).core.slots.last
  issues_or_waits number may waits =
      by_best number may waits (best_from (λ j. eligible core j here.slot) 0 core.slots.last) (best_is_best (λ j. eligible core j here.slot) 0 core.slots.last)
