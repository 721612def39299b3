-- What arrives at a node by its link ends, and what waits at them.
use Rattle.std.proofs.Common.{◌≡◌, ◌≢◌, ℕ, zero, suc, ◌+◌, ◌-◌, ◌<◌, ◌≤◌, ◌⊎◌, inl, inr, Bool, true, false, ◌||◌, eqb, leb, ltb, Option, Some, None, List, [], ◌∷◌, filter, refl, sym, ap, ◌∙◌, subst, arith}
use Rattle.std.specs.Prelude.{is_some, if◌then◌else◌}
use Rattle.std.specs.List.{AllByRecursion, list_any}
use Rattle.std.proofs.lemmas.Bool.{true≢false, cases_Bool, and_parts, or_left, or_right, leb-true, ltb-true, le-leb, lt-ltb}
use Rattle.xs_base.specs.Numbers.{Slot, Position, LinkNumber, EndNumber}
use Rattle.xs_base.specs.declared.numbers.TheConstants.{LINK_ENDS}
use Rattle.xs_base.specs.declared.entry.Entry.{Entry}
use Rattle.xs_base.specs.declared.entry.What.{What}
use Rattle.xs_base.specs.declared.entry.What.TheVariants as what
use Rattle.sys_plan.specs.Plan.{PlanRec, incoming, delay_of}
use Rattle.serial_model.specs.Serial.{IsNoLevel, serial, history, is_sent_within, arriving_by, arrivals_of, token_among, credit_among}
use Rattle.locality_laws.specs.Horizon.{SeenArrives}
use Rattle.locality_laws.specs.Locality.{history_in}
use Rattle.locality_laws.proofs.Levels.{kept_all, links_carry_no_level}
use Rattle.locality_laws.proofs.Links.{histories_are_whole}
use Rattle.quiet_model.specs.Slots.{NoneBefore}
use Rattle.busy_slots.specs.Busy.{brings_something, something_arrives, is_busy, busy_count}
use Rattle.busy_slots.specs.Arrivals.{brought_by, NothingByAnyEnd, SomethingByOneEnd, WaitingStays, FirstBusyByBoth, BusySlotIsCounted}
use Rattle.busy_slots.specs.Serial.{FirstBusySlot}

-- ---- By link end

-- where nothing arrives by any link end
pub none_brought : (by_end : EndNumber → List Entry) → ((end : EndNumber) → by_end end ≡ []) → brings_something (arrivals_of by_end) ≡ false
none_brought by_end none = λ i. brings_something (arrivals_of (λ end. none end i))

-- no level is among some entries
abbrev NoLevels : List Entry → Type 0
NoLevels entries = AllByRecursion (λ (e : Entry). IsNoLevel e.what) entries

-- then an entry is a token or a credit
entry_brings : (entries : List Entry) → NoLevels entries → (entries ≡ [] → ⊥) → (is_some (token_among entries) ≡ true) ⊎ (credit_among entries ≡ true)
entry_brings [] none some = absurd (some refl)
entry_brings (e ∷ entries) none some = by_what e.what refl
  where
    by_what : (w : What) → e.what ≡ w → (is_some (token_among (e ∷ entries)) ≡ true) ⊎ (credit_among (e ∷ entries) ≡ true)
    by_what (what.Token t) is = inl (rw is refl)
    by_what what.Credit is = inr (rw is refl)
    by_what (what.Level level) is = absurd (subst IsNoLevel is none.0)

-- one of the eight settles it
module _ (h : EndNumber → Bool) where
  one_of : (end : EndNumber) → end < 8 → h end ≡ true → (h 0 || (h 1 || (h 2 || (h 3 || (h 4 || (h 5 || (h 6 || (h 7 || false)))))))) ≡ true
  one_of zero within holds = or_left (h 0) _ holds
  one_of (suc zero) within holds = or_right (h 0) _ (or_left (h 1) _ holds)
  one_of (suc (suc zero)) within holds = or_right (h 0) _ (or_right (h 1) _ (or_left (h 2) _ holds))
  one_of (suc (suc (suc zero))) within holds = or_right (h 0) _ (or_right (h 1) _ (or_right (h 2) _ (or_left (h 3) _ holds)))
  one_of (suc (suc (suc (suc zero)))) within holds = or_right (h 0) _ (or_right (h 1) _ (or_right (h 2) _ (or_right (h 3) _ (or_left (h 4) _ holds))))
  one_of (suc (suc (suc (suc (suc zero))))) within holds = or_right (h 0) _ (or_right (h 1) _ (or_right (h 2) _ (or_right (h 3) _ (or_right (h 4) _ (or_left (h 5) _ holds)))))
  one_of (suc (suc (suc (suc (suc (suc zero)))))) within holds = or_right (h 0) _ (or_right (h 1) _ (or_right (h 2) _ (or_right (h 3) _ (or_right (h 4) _ (or_right (h 5) _ (or_left (h 6) _ holds))))))
  one_of (suc (suc (suc (suc (suc (suc (suc zero))))))) within holds =
      or_right (h 0) _ (or_right (h 1) _ (or_right (h 2) _ (or_right (h 3) _ (or_right (h 4) _ (or_right (h 5) _ (or_right (h 6) _ (or_left (h 7) _ holds)))))))
  one_of (suc (suc (suc (suc (suc (suc (suc (suc end)))))))) within holds = absurd (omega (arith, within))

-- where something arrives by one of them
pub one_brought : (by_end : EndNumber → List Entry) (end : EndNumber) → end < 8 → NoLevels (by_end end) → (by_end end ≡ [] → ⊥) → brings_something (arrivals_of by_end) ≡ true
one_brought by_end end within none some = by_entry (entry_brings (by_end end) none some)
  where
    by_entry : (is_some (token_among (by_end end)) ≡ true) ⊎ (credit_among (by_end end) ≡ true) → brings_something (arrivals_of by_end) ≡ true
    by_entry (inl token) = or_left (list_any (λ t. is_some t) (arrivals_of by_end).tokens) _ (one_of (λ k. is_some (token_among (by_end k))) end within token)
    by_entry (inr credit) = or_right (list_any (λ t. is_some t) (arrivals_of by_end).tokens) _ (one_of (λ k. credit_among (by_end k)) end within credit)

module _ (plan : PlanRec) (n : Position) (slot : Slot) where
  abbrev by_end : EndNumber → List Entry
  by_end end = arriving_by plan (serial plan slot).histories slot (incoming plan n end)

  by_link : (l : Option LinkNumber) → ((link : LinkNumber) → l ≡ Some link → brought_by plan link slot ≡ []) → arriving_by plan (serial plan slot).histories slot l ≡ []
  by_link None none = refl
  by_link (Some link) none = none link refl

  nothing_here : ((end : EndNumber) (link : LinkNumber) → incoming plan n end ≡ Some link → brought_by plan link slot ≡ []) → something_arrives plan n slot ≡ false
  nothing_here none = none_brought by_end (λ end. by_link (incoming plan n end) (none end))

  -- no level arrives by a link end
  none_arrives : (end : EndNumber) (link : LinkNumber) → end < LINK_ENDS → incoming plan n end ≡ Some link → NoLevels (by_end end)
  none_arrives end link within comes =
      let none : NoLevels (history_in (serial plan slot).histories link) = subst NoLevels (histories_are_whole plan link slot) (links_carry_no_level plan n end link 0 slot within comes) in
      subst NoLevels (sym (ap (arriving_by plan (serial plan slot).histories slot) comes))
      (kept_all (λ (e : Entry). IsNoLevel e.what) (λ (e : Entry). eqb (e.slot + delay_of plan link) slot) (history_in (serial plan slot).histories link) none)

  something_here : (end : EndNumber) (link : LinkNumber) → end < LINK_ENDS → incoming plan n end ≡ Some link → (brought_by plan link slot ≡ [] → ⊥) → something_arrives plan n slot ≡ true
  something_here end link within comes some =
      one_brought by_end end within (none_arrives end link within comes) (λ none. some (sym (ap (arriving_by plan (serial plan slot).histories slot) comes) ∙ none))

pub nothing_by_any_end : NothingByAnyEnd
nothing_by_any_end plan n slot none = nothing_here plan n slot none

pub something_by_one_end : SomethingByOneEnd
something_by_one_end plan n slot end link within comes some = something_here plan n slot end link within comes some

-- ---- What waits

cases_list : (entries : List Entry) → (entries ≡ []) ⊎ (entries ≡ [] → ⊥)
cases_list [] = inl refl
cases_list (e ∷ entries) = inr (λ is. cc)

-- where nothing arrives, nothing does by any link end
pub none_by_end : (plan : PlanRec) (n : Position) (slot : Slot) (end : EndNumber) (link : LinkNumber) → end < LINK_ENDS → incoming plan n end ≡ Some link
    → something_arrives plan n slot ≡ false → brought_by plan link slot ≡ []
none_by_end plan n slot end link within comes none = by_list (cases_list (brought_by plan link slot))
  where
    by_list : (brought_by plan link slot ≡ []) ⊎ (brought_by plan link slot ≡ [] → ⊥) → brought_by plan link slot ≡ []
    by_list (inl is) = is
    by_list (inr some) = absurd (true≢false (sym (something_here plan n slot end link within comes some) ∙ none))

-- of entries from one slot on, of which none is due in it, all are from the next on
module _ (slot delay seen : Slot) where
  abbrev now : Entry → Bool
  now e = eqb (e.slot + delay) slot

  abbrev waits : Entry → Bool
  waits e = is_sent_within (slot - delay) seen e

  abbrev waits_on : Entry → Bool
  waits_on e = is_sent_within (suc slot - delay) seen e

  later_too : (e : Entry) → waits e ≡ true → now e ≡ false → waits_on e ≡ true
  later_too e in_time not_now =
      let both = and_parts (leb (slot - delay) e.slot) (ltb e.slot seen) in_time in
      let first : slot - delay ≤ e.slot = leb-true (slot - delay) e.slot both.0 in
      let last : e.slot < seen = ltb-true e.slot seen both.1 in
      let apart : e.slot + delay ≢ slot = λ same. true≢false (sym (eqb-is (e.slot + delay) slot same) ∙ not_now) in
      rw (le-leb (suc slot - delay) e.slot (omega (arith, first, apart)), lt-ltb e.slot seen last) refl
    where
      eqb-is : (a b : ℕ) → a ≡ b → eqb a b ≡ true
      eqb-is a b same = grind arith

  -- and what waits from the next on waited before
  was_too : (e : Entry) → waits e ≡ false → waits_on e ≡ false
  was_too e out = by_test (cases_Bool (waits_on e))
    where
      by_test : (waits_on e ≡ true) ⊎ (waits_on e ≡ false) → waits_on e ≡ false
      by_test (inr not) = not
      by_test (inl holds) =
          let both = and_parts (leb (suc slot - delay) e.slot) (ltb e.slot seen) holds in
          let first : suc slot - delay ≤ e.slot = leb-true (suc slot - delay) e.slot both.0 in
          let last : e.slot < seen = ltb-true e.slot seen both.1 in
          let was : waits e ≡ true = rw (le-leb (slot - delay) e.slot (omega (arith, first)), lt-ltb e.slot seen last) refl in
          absurd (true≢false (sym was ∙ out))

  none_due : (es : List Entry) → filter now (filter waits es) ≡ [] → filter waits es ≡ filter waits_on es
  none_due [] none = refl
  none_due (e ∷ es) none = by_test (none_due es) (cases_Bool (waits e)) (cases_Bool (now e))
    where
      by_test : (filter now (filter waits es) ≡ [] → filter waits es ≡ filter waits_on es) → (waits e ≡ true) ⊎ (waits e ≡ false) → (now e ≡ true) ⊎ (now e ≡ false)
          → filter waits (e ∷ es) ≡ filter waits_on (e ∷ es)
      by_test rest (inl in_time) (inl due) = absurd (let h = rw (in_time, due) at none in cc)
      by_test rest (inl in_time) (inr not_due) =
          let on = later_too e in_time not_due in
          let none_later : filter now (filter waits es) ≡ [] = rw (in_time, not_due) at none in
          rw (in_time, on) (ap (λ l. e ∷ l) (rest none_later))
      by_test rest (inr out) due =
          let none_later : filter now (filter waits es) ≡ [] = rw out at none in
          let out_later = was_too e out in
          rw (out, out_later) (rest none_later)

module _ (seen_arrives : SeenArrives) (plan : PlanRec) (n : Position) (end : EndNumber) (link : LinkNumber) (within : end < LINK_ENDS) (comes : incoming plan n end ≡ Some link)
    (some : 1 ≤ delay_of plan link) (seen from : Slot) where
  abbrev delay : ℕ
  delay = delay_of plan link

  one_slot : (slot : Slot) → slot < seen + delay → something_arrives plan n slot ≡ false → history plan link (slot - delay) seen ≡ history plan link (suc slot - delay) seen
  one_slot slot ahead none =
      none_due slot delay seen (history_in (serial plan seen).histories link)
      (seen_arrives plan link (slot - delay) seen slot some (omega arith) ahead ∙ none_by_end plan n slot end link within comes none)

  over : (count : ℕ) → from + count ≤ seen + delay → NoneBefore (something_arrives plan n) from (from + count) → history plan link (from - delay) seen ≡ history plan link (from + count - delay) seen
  over zero ahead none = let same : from ≡ from + 0 = omega arith in ap (λ t. history plan link (t - delay) seen) same
  over (suc count) ahead none =
      let next : suc (from + count) ≡ from + suc count = omega arith in
      over count (omega (arith, ahead)) (λ t first before. none t first (omega (arith, before)))
      ∙ one_slot (from + count) (omega (arith, ahead)) (none (from + count) (omega arith) (omega arith))
      ∙ ap (λ t. history plan link (t - delay) seen) next

pub waiting_stays : SeenArrives → WaitingStays
waiting_stays seen_arrives plan n end link from to seen within comes some later ahead none =
    let there : from + (to - from) ≡ to = omega (arith, later) in
    over seen_arrives plan n end link within comes some seen from (to - from) (omega (arith, there, ahead)) (λ t first before. none t first (omega (arith, before, there)))
    ∙ ap (λ t. history plan link (t - delay_of plan link) seen) there

-- ---- The first busy slot

pub first_by_both : FirstBusySlot → FirstBusyByBoth
first_by_both first_busy plan n node from bound arrival result here arrives stirs =
    let first = first_busy plan n node from arrival result here arrives.none_before stirs in
    record { none_before = first.none_before; there = by_both first.there arrives.there }
  where
    by_both : ((from ≤ result) × (result < arrival) × (is_busy plan n result ≡ true)) ⊎ (result ≡ arrival)
        → ((from ≤ arrival) × (arrival < bound) × (something_arrives plan n arrival ≡ true)) ⊎ (arrival ≡ bound)
        → ((from ≤ result) × (result < bound) × (is_busy plan n result ≡ true)) ⊎ (result ≡ bound)
    by_both (inl busy) (inl some) = inl (busy.0, omega (arith, busy.1, some.1), busy.2)
    by_both (inl busy) (inr none) = inl (busy.0, omega (arith, busy.1, none), busy.2)
    by_both (inr same) (inl some) = inl (omega (arith, same, some.0), omega (arith, same, some.1), ap (is_busy plan n) same ∙ or_left (something_arrives plan n arrival) _ some.2)
    by_both (inr same) (inr none) = inr (same ∙ none)

-- ---- Counts

pub counted : BusySlotIsCounted
unfolding busy_count
counted plan n slot busy =
    let next : slot + 1 ≡ suc slot = omega arith in
    ap (busy_count plan n) next ∙ ap (λ (b : Bool). busy_count plan n slot + (if b then 1 else 0)) busy

pub none_at_start : (plan : PlanRec) (n : Position) → busy_count plan n 0 ≡ 0
unfolding busy_count
none_at_start plan n = refl
