-- Entries of a history by their slots, and which of them a test lets through.
use Rattle.std.proofs.Common.{◌≡◌, ℕ, ◌<◌, ◌≤◌, Bool, true, false, eqb, cond, Option, Some, None, List, slice_index_or, [], ◌∷◌, ◌++◌, refl, sym, ap, ◌∙◌, inl, inr}
use mathlib.Core.Logic.{◌⊎◌}
use Rattle.std.specs.List.{AllByRecursion, filter}
use Rattle.std.proofs.lemmas.Bool.{cases_Bool}
use Rattle.xs_base.specs.Numbers.{Slot}
use Rattle.xs_base.specs.declared.token.Token.{Token}
use Rattle.xs_base.specs.declared.entry.Entry.{Entry}
use Rattle.xs_base.specs.declared.entry.What.TheVariants as what
use Rattle.xs_model.specs.Record.{NodeRec}
use Rattle.xs_model.specs.Outside.{Emitted}
use Rattle.sys_plan.specs.Plan.{Joined}
use Rattle.serial_model.specs.Serial.{token_entries, credit_entries, sent_by, driven_level, level_entries, carried_by}

-- ---- Slots

abbrev pub AllFrom : Slot → List Entry → Type 0
AllFrom slot entries = AllByRecursion (λ (e : Entry). slot ≤ e.slot) entries

abbrev pub AllBefore : Slot → List Entry → Type 0
AllBefore slot entries = AllByRecursion (λ (e : Entry). e.slot < slot) entries

abbrev pub AllIn : Slot → List Entry → Type 0
AllIn slot entries = AllByRecursion (λ (e : Entry). e.slot ≡ slot) entries

module _ (P : Entry → Type 0) where
  pub both_all : (xs ys : List Entry) → AllByRecursion P xs → AllByRecursion P ys → AllByRecursion P (xs ++ ys)
  both_all [] ys h k = k
  both_all (x ∷ xs) ys h k = (h.0, both_all xs ys h.1 k)

module _ (P Q : Entry → Type 0) (weaker : (e : Entry) → P e → Q e) where
  pub all_weaker : (xs : List Entry) → AllByRecursion P xs → AllByRecursion Q xs
  all_weaker [] h = tt
  all_weaker (x ∷ xs) h = (weaker x h.0, all_weaker xs h.1)

token_in : (slot : Slot) (token : Option Token) → AllIn slot (token_entries slot token)
token_in slot None = tt
token_in slot (Some t) = (refl, tt)

credit_in : (slot : Slot) (credit : Bool) → AllIn slot (credit_entries slot credit)
credit_in slot false = tt
credit_in slot true = (refl, tt)

level_in : (slot before after : ℕ) → AllIn slot (level_entries slot before after)
level_in slot before after = by_same (eqb after before)
  where
    by_same : (same : Bool) → AllIn slot (cond same [] (record { slot = slot; what = what.Level after } ∷ []))
    by_same true = tt
    by_same false = (refl, tt)

-- what a slot sends has that slot
sent_in : (slot : Slot) (emitted : Emitted) (end : ℕ) → AllIn slot (sent_by slot emitted end)
sent_in slot emitted end =
    let token = slice_index_or emitted.tokens end None in
    let credit = slice_index_or emitted.credits end false in
    both_all (λ (e : Entry). e.slot ≡ slot) (token_entries slot token) (credit_entries slot credit) (token_in slot token) (credit_in slot credit)

-- and so has what an arc carries of it
pub carried_has : (slot : Slot) (before after : NodeRec) (emitted : Emitted) (end : ℕ) (joins : Option Joined) → AllIn slot (carried_by slot before after emitted end joins)
carried_has slot before after emitted end None = sent_in slot emitted end
carried_has slot before after emitted end (Some joined) = level_in slot (driven_level before joined.from_port) (driven_level after joined.from_port)

-- ---- Tests

true_false : true ≡ false → ⊥
true_false h = cc

module _ (p q : Entry → Bool) where
  -- where two tests say the same they let the same through
  pub filter_same : (xs : List Entry) → AllByRecursion (λ (e : Entry). p e ≡ q e) xs → filter p xs ≡ filter q xs
  filter_same [] h = refl
  filter_same (x ∷ xs) h = λ i. cond (h.0 i) (x ∷ filter_same xs h.1 i) (filter_same xs h.1 i)

  -- what passes the one test passes the other, which then takes nothing from the first
  pub filter_through : ((e : Entry) → p e ≡ true → q e ≡ true) → (xs : List Entry) → filter p (filter q xs) ≡ filter p xs
  filter_through passes [] = refl
  filter_through passes (x ∷ xs) = by_test (filter_through passes xs) (cases_Bool (q x)) (cases_Bool (p x))
    where
      by_test : filter p (filter q xs) ≡ filter p xs → (q x ≡ true) ⊎ (q x ≡ false) → (p x ≡ true) ⊎ (p x ≡ false) → filter p (filter q (x ∷ xs)) ≡ filter p (x ∷ xs)
      by_test rest (inl in_q) (inl in_p) = rw (in_q, in_p) (ap (λ l. x ∷ l) rest)
      by_test rest (inl in_q) (inr out_p) = rw (in_q, out_p) rest
      by_test rest (inr out_q) (inl in_p) = absurd (true_false (sym (passes x in_p) ∙ out_q))
      by_test rest (inr out_q) (inr out_p) = rw (out_q, out_p) rest

module _ (p : Entry → Bool) where
  pub filter_none : (xs : List Entry) → AllByRecursion (λ (e : Entry). p e ≡ false) xs → filter p xs ≡ []
  filter_none [] h = refl
  filter_none (x ∷ xs) h = rw h.0 (filter_none xs h.1)
