-- Turns: what they tell of the last issues, what a new one is, and the least of them.
use Rattle.std.proofs.Common.{ℕ, ◌≡◌, ◌≢◌, ◌+◌, ◌-◌, ◌*◌, ◌/◌, ◌<◌, min, Bool, true, false, ◌&&◌, Option, Some, None, List, get_or, ap, sym, ◌∙◌, arith, inl, inr}
use Rattle.std.specs.Prelude.{nat_lt}
use Rattle.xs_model.specs.Masks.{in_mask}
use Rattle.std.proofs.lemmas.Bool.{eq-eqb, ne_eqb, cond-true, cond-false, cases_eq, cases_lt, both_ways, and_parts, and_from, lt-ltb, ltb-true}
use Rattle.thread_slots.specs.Turns.{turn_of, last_in, IsLeast}

-- ---- a turn and the last issue in it

pub last_in_of : (k : ℕ) (last : Option ℕ) → k < 8 → last_in (turn_of k last) ≡ last
last_in_of k None h = let none : (8 * 0 + k) / 8 ≡ 0 = omega arith in cond-true _ _ _ (eq-eqb _ 0 none)
last_in_of k (Some last) h =
    let slot : (8 * (last + 4) + k) / 8 ≡ last + 4 = omega arith in
    let back : (8 * (last + 4) + k) / 8 - 4 ≡ last = omega arith in
    cond-false _ _ _ (ne_eqb ((8 * (last + 4) + k) / 8) 0 (λ (e : (8 * (last + 4) + k) / 8 ≡ 0). omega arith)) ∙ ap Some back

-- ---- the least turn

same_least : (test other : ℕ → Bool) (turns : List ℕ) (turn : ℕ) → IsLeast test turns turn → ((k : ℕ) → k < 8 → test k ≡ true → other k ≡ true) → ((k : ℕ) → k < 8 → other k ≡ true → test k ≡ true) → IsLeast other turns turn
same_least test other turns turn is stays came = record {
  least = λ k h passes. is.least k h (came k h passes);
  its = λ some. let w = is.its some in (w.0, w.1, stays w.0 w.1 w.2, w.3);
}

-- the least so far, and one thread more
pub one_more : (test other : ℕ → Bool) (turns : List ℕ) (turn i : ℕ) → IsLeast test turns turn → i < 8 → other i ≡ true → ((k : ℕ) → k < 8 → test k ≡ true → other k ≡ true) → ((k : ℕ) → k < 8 → other k ≡ true → k ≢ i → test k ≡ true) → IsLeast other turns (min turn (get_or turns i 0))
one_more test other turns turn i is within passes stays came = record {
  least = λ k h p. elim (cases_eq k i) [ inl same ↦ let e : get_or turns k 0 ≡ get_or turns i 0 = ap (λ n. get_or turns n 0) same in omega arith | inr not_i ↦ omega (arith, is.least k h (came k h p not_i)) ];
  its = λ some. elim (cases_lt turn (get_or turns i 0)) [ inl less ↦ let w = is.its (omega arith) in (w.0, w.1, stays w.0 w.1 w.2, omega (arith, w.3)) | inr no_less ↦ (i, within, passes, omega arith) ];
}

-- ---- over the threads by number

-- thread k is before number i and in the mask
abbrev seen : ℕ → ℕ → ℕ → Bool
seen able i k = nat_lt k i && in_mask able k

seen_stays : (able i k : ℕ) → seen able i k ≡ true → seen able (i + 1) k ≡ true
seen_stays able i k s =
    let w : (nat_lt k i ≡ true) × (in_mask able k ≡ true) = and_parts _ _ s in
    and_from _ _ (lt-ltb _ _ (omega (arith, ltb-true k i w.0))) w.1

seen_came : (able i k : ℕ) → seen able (i + 1) k ≡ true → k ≢ i → seen able i k ≡ true
seen_came able i k s other =
    let w : (nat_lt k (i + 1) ≡ true) × (in_mask able k ≡ true) = and_parts _ _ s in
    and_from _ _ (lt-ltb _ _ (omega (arith, ltb-true k (i + 1) w.0))) w.1

pub seen_in : (able i : ℕ) (turns : List ℕ) (turn : ℕ) → IsLeast (seen able i) turns turn → i < 8 → in_mask able i ≡ true → IsLeast (seen able (i + 1)) turns (min turn (get_or turns i 0))
seen_in able i turns turn is h its =
    one_more _ _ turns turn i is h (and_from _ _ (lt-ltb _ _ (omega arith)) its) (λ k _. seen_stays able i k) (λ k _. seen_came able i k)

pub seen_out : (able i : ℕ) (turns : List ℕ) (turn : ℕ) → IsLeast (seen able i) turns turn → in_mask able i ≡ false → IsLeast (seen able (i + 1)) turns turn
seen_out able i turns turn is out =
    same_least _ _ turns turn is (λ k _. seen_stays able i k) (λ k _ s. seen_came able i k s (λ e. both_ways _ out (sym (ap (in_mask able) e) ∙ (and_parts _ _ s).1)))
