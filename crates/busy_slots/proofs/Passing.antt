-- What stays in each of some slots stays in all of them; and what an arc carried, where its history stays.
use Rattle.std.proofs.Common.{◌≡◌, ℕ, zero, suc, ◌+◌, ◌-◌, ◌<◌, ◌≤◌, ◌⊎◌, inl, inr, Bool, true, false, ◌&&◌, cond, leb, ltb, List, [], ◌∷◌, filter, refl, sym, ap, ◌∙◌, arith}
use Rattle.std.proofs.lemmas.Bool.{cases_Bool, and_parts, ltb-true, lt-ltb}
use Rattle.xs_base.specs.Numbers.{Slot, LinkNumber}
use Rattle.xs_base.specs.declared.entry.Entry.{Entry}
use Rattle.sys_plan.specs.Plan.{PlanRec}
use Rattle.serial_model.specs.Serial.{serial, history, is_sent_within}
use Rattle.locality_laws.specs.Horizon.{HistoriesAreWhole}
use Rattle.locality_laws.specs.Locality.{history_in}

module _ {A : Type 0} (of : Slot → A) (from : Slot) where
  stays : (count : ℕ) → ((t : Slot) → from ≤ t → t < from + count → of (suc t) ≡ of t) → of (from + count) ≡ of from
  stays zero each = let here : from + 0 ≡ from = omega arith in ap of here
  stays (suc count) each =
      let on : from + suc count ≡ suc (from + count) = omega arith in
      ap of on
      ∙ each (from + count) (omega arith) (omega arith)
      ∙ stays count (λ t first later. each t first (omega (arith, later)))

  pub stays_to : (to : Slot) → from ≤ to → ((t : Slot) → from ≤ t → t < to → of (suc t) ≡ of t) → of to ≡ of from
  stays_to to later each =
      let there : to ≡ from + (to - from) = omega arith in
      ap of there ∙ stays (to - from) (λ t first before. each t first (omega (arith, before, there)))

-- ---- Histories

module _ (p q through : Entry → Bool) (alike : (e : Entry) → through e ≡ true → p e ≡ q e) where
  filter_alike : (xs : List Entry) → filter p (filter through xs) ≡ filter q (filter through xs)
  filter_alike [] = refl
  filter_alike (x ∷ xs) = by_test (filter_alike xs) (cases_Bool (through x))
    where
      by_test : filter p (filter through xs) ≡ filter q (filter through xs) → (through x ≡ true) ⊎ (through x ≡ false) → filter p (filter through (x ∷ xs)) ≡ filter q (filter through (x ∷ xs))
      by_test rest (inl passes) = rw passes (λ i. cond (alike x passes i) (x ∷ rest i) (rest i))
      by_test rest (inr stopped) = rw stopped rest

module _ (since from to : Slot) (later : from ≤ to) where
  -- of what was sent before the first slot
  within_alike : (e : Entry) → is_sent_within 0 from e ≡ true → is_sent_within since to e ≡ is_sent_within since from e
  within_alike e before =
      let in_time = (and_parts (leb 0 e.slot) (ltb e.slot from) before).1 in
      ap (λ b. leb since e.slot && b) (lt-ltb e.slot to (omega (arith, ltb-true e.slot from in_time)) ∙ sym in_time)

  pub carried_alike : HistoriesAreWhole → (plan : PlanRec) (link : LinkNumber) → history_in (serial plan to).histories link ≡ history_in (serial plan from).histories link
      → history plan link since to ≡ history plan link since from
  carried_alike whole plan link same =
      let all : history_in (serial plan from).histories link ≡ history plan link 0 from = sym (whole plan link from) in
      ap (filter (is_sent_within since to)) (same ∙ all)
      ∙ filter_alike (is_sent_within since to) (is_sent_within since from) (is_sent_within 0 from) within_alike (history_in (serial plan from).histories link)
      ∙ sym (ap (filter (is_sent_within since from)) all)
