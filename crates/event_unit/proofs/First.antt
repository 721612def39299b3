-- The lowest bit of a mask is the first entry that is ready and gives something.
use Rattle.std.proofs.Common.{ℕ, zero, suc, ◌≡◌, ◌+◌, ◌-◌, ◌^◌, ◌<◌, ◌≤◌, min, Bool, true, false, not, ◌&&◌, eqb, bit_and, Some, None, is_some, List, [], ◌∷◌, length, get_or, refl, ap, sym, subst, ◌∙◌, arith, inl, inr}
use Rattle.std.specs.Int.{w32, bit_at, trailing_zeros}
use Rattle.std.proofs.lemmas.Bool.{cond-true, cond-false, cases_lt, cases_eq, eq-eqb, ne_eqb, and_parts}
use Rattle.std.proofs.lemmas.List.{get_or_past}
use Rattle.std.proofs.lemmas.Nat.{and_le_l}
use Rattle.std.proofs.lemmas.Nat.Bits.{bit_at_and, bit_at_not, bit_at-zero, bit_at-trailing_zeros}
use Rattle.xs_model.specs.Masks.{in_mask}
use Rattle.xs_model.specs.Record.{EnablingRec, not_enabled}
use Rattle.xs_model.specs.Enabling.{gives_to}
use Rattle.xs_model.specs.Choices.{first_ready}
use Rattle.xs_model.specs.Syncs.{is_thread}
use Rattle.event_unit.specs.Marks.{entry_at, AreMarks}

-- ---- bits

both_set : (a b : ℕ) → a < 2 → b < 2 → eqb (min a b) 1 ≡ (eqb a 1 && eqb b 1)
both_set zero zero h l = refl
both_set zero (suc zero) h l = refl
both_set (suc zero) zero h l = refl
both_set (suc zero) (suc zero) h l = refl
both_set (suc (suc a)) b h l = absurd (omega arith)
both_set a (suc (suc b)) h l = absurd (omega arith)

pub in_both : (a b n : ℕ) → in_mask (bit_and a b) n ≡ (in_mask a n && in_mask b n)
in_both a b n = ap (λ d. eqb d 1) (bit_at_and a b n) ∙ both_set (bit_at a n) (bit_at b n) (omega arith) (omega arith)

not_set : (a : ℕ) → a < 2 → eqb (1 - a) 1 ≡ not (eqb a 1)
not_set zero h = refl
not_set (suc zero) h = refl
not_set (suc (suc a)) h = absurd (omega arith)

pub not_in : (a n : ℕ) → a < 2 ^ 32 → n < 32 → in_mask (2 ^ 32 - 1 - a) n ≡ not (in_mask a n)
not_in a n fits within = ap (λ d. eqb d 1) (bit_at_not w32 a n fits within) ∙ not_set (bit_at a n) (omega arith)

-- ---- the first of a list

abbrev passes : (EnablingRec → Bool) → (ℕ → Bool) → ℕ → List EnablingRec → ℕ → Bool
passes gives is_ready n entries i = gives (entry_at entries i) && is_ready (n + i)

first_at : (gives : EnablingRec → Bool) (is_ready : ℕ → Bool) (n : ℕ) (entries : List EnablingRec) (t : ℕ) → t < length entries → passes gives is_ready n entries t ≡ true → ((i : ℕ) → i < t → passes gives is_ready n entries i ≡ false) → first_ready gives is_ready n entries ≡ Some (entry_at entries t)
unfolding first_ready
first_at gives is_ready n [] t h here before = absurd (omega arith)
first_at gives is_ready n (e ∷ rest) zero h here before = cond-true (gives e && is_ready n) _ _ (subst (λ k. (gives e && is_ready k) ≡ true) (omega arith) here)
first_at gives is_ready n (e ∷ rest) (suc t) h here before =
    let moved : (i : ℕ) → n + suc i ≡ n + 1 + i = λ i. omega arith in
    cond-false (gives e && is_ready n) _ _ (subst (λ k. (gives e && is_ready k) ≡ false) (omega arith) (before 0 (omega arith))) ∙ first_at gives is_ready (n + 1) rest t (omega arith) (subst (λ k. (gives (entry_at rest t) && is_ready k) ≡ true) (moved t) here) (λ i l. subst (λ k. (gives (entry_at rest i) && is_ready k) ≡ false) (moved i) (before (suc i) (omega arith)))

first_none : (gives : EnablingRec → Bool) (is_ready : ℕ → Bool) (n : ℕ) (entries : List EnablingRec) → ((i : ℕ) → i < length entries → passes gives is_ready n entries i ≡ false) → first_ready gives is_ready n entries ≡ None
unfolding first_ready
first_none gives is_ready n [] none = refl
first_none gives is_ready n (e ∷ rest) none =
    let moved : (i : ℕ) → n + suc i ≡ n + 1 + i = λ i. omega arith in
    cond-false (gives e && is_ready n) _ _ (subst (λ k. (gives e && is_ready k) ≡ false) (omega arith) (none 0 (omega arith))) ∙ first_none gives is_ready (n + 1) rest (λ i l. subst (λ k. (gives (entry_at rest i) && is_ready k) ≡ false) (moved i) (none (suc i) (omega arith)))

-- ---- the first of a mask

-- the mask has the entries that give something to a thread
abbrev pub AreGiven : ℕ → ℕ → Bool → List EnablingRec → Type 0
AreGiven mask k interrupt entries = (n : ℕ) → n < 32 → in_mask mask n ≡ gives_to k interrupt (entry_at entries n)

module _ (masks : List ℕ) (modes k : ℕ) (entries : List EnablingRec) (fits : modes < 2 ^ 32) (marks : AreMarks masks modes entries) (within : k < 8) where
  pub given_interrupts : (interrupt : Bool) → interrupt ≡ true → AreGiven (bit_and (get_or masks k 0) modes) k interrupt entries
  given_interrupts true is n h =
      in_both (get_or masks k 0) modes n ∙ ap (λ b. b && in_mask modes n) (marks.enabled k within n h) ∙ ap (λ b. is_thread k (entry_at entries n).thread && b) (marks.interrupts n h)
  given_interrupts false differs n h = cc

  pub given_events : (interrupt : Bool) → interrupt ≡ false → AreGiven (bit_and (get_or masks k 0) (2 ^ 32 - 1 - modes)) k interrupt entries
  given_events false is n h =
      in_both (get_or masks k 0) (2 ^ 32 - 1 - modes) n
      ∙ ap (λ b. b && in_mask (2 ^ 32 - 1 - modes) n) (marks.enabled k within n h)
      ∙ ap (λ b. is_thread k (entry_at entries n).thread && b) (not_in modes n fits h ∙ ap not (marks.interrupts n h))
  given_events true differs n h = cc

-- only an entry that is there gives something
there : (k : ℕ) (interrupt : Bool) (entries : List EnablingRec) (t : ℕ) → gives_to k interrupt (entry_at entries t) ≡ true → t < length entries
there k interrupt entries t gives =
    elim (cases_lt t (length entries)) [
      | inl h ↦ h
      | inr past ↦ absurd (false-true (sym (ap (gives_to k interrupt) (get_or_past entries t not_enabled past)) ∙ gives))
    ]
  where
    false-true : false ≡ true → ⊥
    false-true h = cc

module _ (mask ready k : ℕ) (interrupt : Bool) (entries : List EnablingRec) (given : AreGiven mask k interrupt entries) (count : length entries ≤ 32) where
  pub listed_given : (t : ℕ) → t < 32 → in_mask (bit_and mask ready) t ≡ true → t < length entries
  listed_given t within is =
      there k interrupt entries t (sym (given t within) ∙ (and_parts _ _ (sym (in_both mask ready t) ∙ is)).0)

  module _ (is_ready : ℕ → Bool) (agrees : (n : ℕ) → n < length entries → in_mask ready n ≡ is_ready n) where
    in_given : (n : ℕ) → n < length entries → in_mask (bit_and mask ready) n ≡ passes (gives_to k interrupt) is_ready 0 entries n
    in_given n h = in_both mask ready n ∙ ap (λ b. b && in_mask ready n) (given n (omega arith)) ∙ ap (λ b. gives_to k interrupt (entry_at entries n) && b) (agrees n h) ∙ ap (λ i. gives_to k interrupt (entry_at entries n) && is_ready i) (omega arith)

    pub first_given : (t : ℕ) → t < 32 → in_mask (bit_and mask ready) t ≡ true → ((i : ℕ) → i < t → in_mask (bit_and mask ready) i ≡ false) → first_ready (gives_to k interrupt) is_ready 0 entries ≡ Some (entry_at entries t)
    first_given t within is least =
        let listed = listed_given t within is in
        first_at (gives_to k interrupt) is_ready 0 entries t listed (sym (in_given t listed) ∙ is) (λ i l. sym (in_given i (omega (arith, l, listed))) ∙ least i l)

    pub none_given : bit_and mask ready ≡ 0 → first_ready (gives_to k interrupt) is_ready 0 entries ≡ None
    none_given nothing =
        first_none (gives_to k interrupt) is_ready 0 entries (λ i h. sym (in_given i h) ∙ ap (λ m. in_mask m i) nothing ∙ ap (λ d. eqb d 1) (bit_at-zero i))

    pub any_given : mask < 2 ^ 32 → not (eqb (bit_and mask ready) 0) ≡ is_some (first_ready (gives_to k interrupt) is_ready 0 entries)
    any_given fits =
        elim (cases_eq (bit_and mask ready) 0) [
          | inl e ↦ ap not (eq-eqb _ 0 e) ∙ sym (ap is_some (none_given e))
          | inr ne ↦
              let low = bit_at-trailing_zeros w32 (bit_and mask ready) (omega (arith, ne)) (omega (arith, fits, and_le_l mask ready)) in
              ap not (ne_eqb _ 0 ne) ∙ sym (ap is_some (first_given (trailing_zeros w32 (bit_and mask ready)) low.0 (ap (λ d. eqb d 1) low.1) (λ i l. ap (λ d. eqb d 1) (low.2 i l))))
        ]
