-- The walk over the inputs that can act, in their order, makes the steps of all inputs.
use Rattle.std.proofs.Common.{ℕ, zero, suc, ◌≡◌, ◌≢◌, ◌+◌, ◌-◌, ◌<◌, ◌≤◌, true, false, cond, eqb, List, get_or, sym, refl, ap, subst, ◌∙◌, inl, inr, arith}
use Rattle.std.proofs.lemmas.Bool.{cases_eq, cases_lt, false≢true, cond-true, cond-false, eq-eqb, ne_eqb}
use Rattle.xs_model.specs.Masks.{in_mask}
use Rattle.xs_model.specs.Record.{InputRec, Idle}
use Rattle.xs_model.specs.AtWork.{AtWork}
use Rattle.net_model.specs.Switch.{Routes, input_step, moves}
use Rattle.switch_routes.specs.declared.work.Work.{Work}
use Rattle.quiet_model.specs.Still.{acts_alone}
use Rattle.switch_routes.specs.Rest.{IsStill}
use Rattle.switch_routes.specs.Work.{Begun, Stands, GoesBy}
use Rattle.switch_routes.proofs.GoesBy.{goes-then, goes-as, goes-nowhere, goes-at_most, waits}
use Rattle.switch_routes.proofs.Marks.{none-in}
use Rattle.switch_routes.proofs.Moves.{first_steps, no_steps, next_step, all_steps}
use Rattle.switch_routes.proofs.Still.{Still, still-step, still-on}

-- the steps of inputs that do nothing
steps-still : (routes : Routes) (slot p n k : ℕ) (m : AtWork) → k ≡ p + n → ((i : ℕ) → p ≤ i → i < k → Still i (first_steps routes slot p m)) → first_steps routes slot k m ≡ first_steps routes slot p m
steps-still routes slot p zero k m is still =
    let same : k ≡ p = omega arith in
    ap (λ (x : ℕ). first_steps routes slot x m) same
steps-still routes slot p (suc n) k m is still =
    let next : k ≡ (p + n) + 1 = omega arith in
    ap (λ (x : ℕ). first_steps routes slot x m) next
    ∙ next_step routes slot (p + n) m
    ∙ ap (λ (x : AtWork). input_step routes slot (p + n) x) (steps-still routes slot p n (p + n) m refl (λ i from below. still i from (omega (arith, below, next))))
    ∙ still-step routes slot (p + n) (first_steps routes slot p m) (still (p + n) (omega arith) (omega (arith, next)))

-- the inputs below number p made their steps, and of the others those that are not left do nothing
pub record Walked (p left : ℕ) (start now : Work) : Type 0 where
  pub within : p ≤ 40
  pub goes : GoesBy p (λ begun. first_steps begun.routes begun.slot p) start now
  pub below : (i : ℕ) → i < p → in_mask left i ≡ false
  pub still : (i : ℕ) → p ≤ i → i < 40 → in_mask left i ≡ false → (begun : Begun) (m : AtWork) → Stands begun start m → Still i (first_steps begun.routes begun.slot p m)
  pub above : (i : ℕ) → 40 ≤ i → i < 64 → in_mask left i ≡ false

pub walked-first : (work : Work) (left : ℕ) → ((i : ℕ) → i < 40 → in_mask left i ≡ false → IsStill work.inputs.now work.chans.now work.links.now i) → ((i : ℕ) → 40 ≤ i → i < 64 → in_mask left i ≡ false) → Walked 0 left work work
walked-first work left still above = record {
  within = omega arith;
  goes = goes-as 0 (λ begun m s. sym (no_steps begun.routes begun.slot m)) (goes-nowhere 0 work);
  below = λ i h. absurd (omega (arith, h));
  still = λ i from h clear begun m s.
      let is = still i h clear in
      subst (λ (x : AtWork). Still i x) (sym (no_steps begun.routes begun.slot m))
      (record { alone = ap (λ (xs : List InputRec). acts_alone (get_or xs i Idle)) (sym s.inputs) ∙ is.alone; waiting = sym (waits begun work m s i) ∙ is.waiting });
  above = above;
}

-- the lowest input that is left makes its step
module _ (p k left after : ℕ) (start now new : Work) (walked : Walked p left start now) (its : in_mask left k ≡ true) (lowest : (i : ℕ) → i < k → in_mask left i ≡ false) (fits : k < 64) where
  pub from_here : p ≤ k
  from_here = elim (cases_lt k p) [
    | inl h ↦ absurd (false≢true (sym (walked.below k h) ∙ its))
    | inr h ↦ h
  ]

  pub is_input : k < 40
  is_input = elim (cases_lt k 40) [
    | inl h ↦ h
    | inr h ↦ absurd (false≢true (sym (walked.above k h fits) ∙ its))
  ]

  up_to : (begun : Begun) (m : AtWork) → Stands begun start m → first_steps begun.routes begun.slot k m ≡ first_steps begun.routes begun.slot p m
  up_to begun m s =
      steps-still begun.routes begun.slot p (k - p) k m (omega (arith, from_here)) (λ i from h. walked.still i from (omega (arith, h, is_input)) (lowest i h) begun m s)

  one_more : (begun : Begun) (m : AtWork) → Stands begun start m → input_step begun.routes begun.slot k (first_steps begun.routes begun.slot p m) ≡ first_steps begun.routes begun.slot (k + 1) m
  one_more begun m s =
      sym (next_step begun.routes begun.slot k m ∙ ap (λ (x : AtWork). input_step begun.routes begun.slot k x) (up_to begun m s))

  others : ((i : ℕ) → i < 64 → in_mask after i ≡ cond (eqb i k) false (in_mask left i)) → (i : ℕ) → i < 64 → i ≢ k → in_mask after i ≡ in_mask left i
  others bits i h other = bits i h ∙ cond-false (eqb i k) _ _ (ne_eqb i k other)

  below_next : ((i : ℕ) → i < 64 → in_mask after i ≡ cond (eqb i k) false (in_mask left i)) → (i : ℕ) → i < k + 1 → in_mask after i ≡ false
  below_next bits i h = elim (cases_eq i k) [
    | inl same ↦ bits i (omega (arith, h, is_input)) ∙ cond-true (eqb i k) _ _ (eq-eqb i k same)
    | inr other ↦ others bits i (omega (arith, h, is_input)) other ∙ lowest i (omega (arith, h, other))
  ]

  pub walked-next : ((i : ℕ) → i < 64 → in_mask after i ≡ cond (eqb i k) false (in_mask left i)) → GoesBy 1 (λ begun. input_step begun.routes begun.slot k) now new → Walked (k + 1) after start new
  walked-next bits step = record {
    within = omega (arith, is_input);
    goes = goes-as (k + 1) one_more (goes-then p 1 (k + 1) (omega (arith, from_here)) walked.goes step);
    below = below_next bits;
    still = λ i from h clear begun m s.
        let other : i ≢ k = λ same. omega (arith, same, from) in
        subst (λ (x : AtWork). Still i x) (one_more begun m s)
        (still-on begun.routes begun.slot k i (first_steps begun.routes begun.slot p m) other (walked.still i (omega (arith, from, from_here)) h (sym (others bits i (omega (arith, h)) other) ∙ clear) begun m s));
    above = λ i from h. let other : i ≢ k = λ same. omega (arith, same, from, is_input) in others bits i h other ∙ walked.above i from h;
  }

-- none is left
pub walked-last : (p left : ℕ) (start now : Work) → left ≡ 0 → Walked p left start now → GoesBy 40 (λ begun. moves begun.routes begun.slot) start now
walked-last p left start now none walked =
    goes-as 40 (λ begun m s.
    sym (steps-still begun.routes begun.slot p (40 - p) 40 m (omega (arith, walked.within)) (λ i from h. walked.still i from h (ap (λ (l : ℕ). in_mask l i) none ∙ none-in i) begun m s))
    ∙ all_steps begun.routes begun.slot 40 m)
    (goes-at_most p 40 walked.within walked.goes)

-- where every input does nothing, the switch does nothing
pub moves-still : (routes : Routes) (slot : ℕ) (m : AtWork) → ((i : ℕ) → i < 40 → Still i m) → moves routes slot m ≡ m
moves-still routes slot m still =
    sym (all_steps routes slot 40 m)
    ∙ steps-still routes slot 0 40 40 m refl (λ i from h. subst (λ (x : AtWork). Still i x) (sym (no_steps routes slot m)) (still i h))
    ∙ no_steps routes slot m
