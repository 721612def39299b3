-- The falling edges of a clock that has one in every period.
use Rattle.std.proofs.Common.{ℕ, zero, suc, ◌≡◌, ◌≢◌, ◌+◌, ◌-◌, ◌*◌, ◌/◌, ◌%◌, ◌<◌, ◌≤◌, true, false, cond, List, refl, ap, sym, subst, ◌∙◌, inl, inr, arith}
use Rattle.std.proofs.lemmas.Bool.{cases_lt, cases_eq, eq-eqb, ne_eqb, lt-leb, le-leb}
use Rattle.std.proofs.lemmas.Nat.{div-add-mod', mod-mul-add, mul-le}
use Rattle.xs_model.specs.declared.clock.Clock.{Clock}
use Rattle.xs_model.specs.Record.{ClockRec}
use Rattle.xs_model.specs.Time.{edge_at}
use Rattle.quiet_model.specs.Slots.{IsFirst}
use Rattle.quiet_model.specs.Clocks.{is_fall, falls_in, has_fallen}
use Rattle.timers_clocks.specs.Falls.{FallsEvery, NeverFalls, AreBefore}

-- a later period begins after an earlier one ends
later : (a b p : ℕ) → a < b → a * p + p ≤ b * p
later a b p h = omega (arith, mul-le (a + 1) p b p (omega arith) (omega arith))

-- there is one such count
pub same_before : (p slot a b : ℕ) → AreBefore p slot a → AreBefore p slot b → a ≡ b
same_before p slot a b one other =
    elim (cases_lt a b) [
      | inl h ↦ absurd (omega (arith, later a b p h, one.next, other.last))
      | inr h ↦ elim (cases_lt b a) [
        | inl h' ↦ absurd (omega (arith, later b a p h', one.last, other.next))
        | inr h' ↦ omega (arith, h, h')
      ]
    ]

module _ (p : ℕ) (some : 1 < p) (clocks : List ClockRec) (clock : Clock) (every : FallsEvery p clocks clock) where
  in_middle : (slot count : ℕ) → slot ≡ count * p + p / 2 → is_fall (edge_at clocks clock slot) ≡ true
  in_middle slot count is =
      every slot ∙ eq-eqb (slot % p) (p / 2) (ap (λ s. s % p) is ∙ mod-mul-add count p (p / 2) (omega (arith, some)))

  elsewhere : (slot count : ℕ) → AreBefore p slot count → slot ≢ count * p + p / 2 → is_fall (edge_at clocks clock slot) ≡ false
  elsewhere slot count are other =
      every slot ∙ ne_eqb (slot % p) (p / 2) (λ e.
      let split : slot / p * p + slot % p ≡ slot = div-add-mod' slot p in
      elim (cases_lt (slot / p) count) [
        | inl h ↦ omega (arith, later (slot / p) count p h, are.last, split, e)
        | inr h ↦ omega (arith, mul-le count p (slot / p) p h (omega arith), are.next, split, e, other)
      ])

  next_slot : (slot count : ℕ) → AreBefore p slot count → AreBefore p (suc slot) (count + cond (is_fall (edge_at clocks clock slot)) 1 0)
  next_slot slot count are =
      elim (cases_eq slot (count * p + p / 2)) [
        | inl e ↦ subst (λ fall. AreBefore p (suc slot) (count + cond fall 1 0)) (sym (in_middle slot count e)) (record { next = omega (arith, e, some); last = omega (arith, e, some) })
        | inr e ↦ subst (λ fall. AreBefore p (suc slot) (count + cond fall 1 0)) (sym (elsewhere slot count are e)) (record { next = omega (arith, e, are.next); last = omega (arith, are.last) })
      ]

  -- those before a slot and those in the slots from it on
  pub counted : (from first n : ℕ) → AreBefore p from first → AreBefore p (from + n) (first + falls_in clocks clock from n)
  unfolding falls_in
  counted from first zero are = subst (AreBefore p (from + 0)) (omega arith) (subst (λ s. AreBefore p s first) (omega arith) are)
  counted from first (suc n) are =
      let fall : ℕ = cond (is_fall (edge_at clocks clock (from + n))) 1 0 in
      let more : AreBefore p (suc (from + n)) (first + falls_in clocks clock from n + fall) = next_slot (from + n) (first + falls_in clocks clock from n) (counted from first n are) in
      subst (AreBefore p (from + suc n)) (omega arith) (subst (λ s. AreBefore p s (first + falls_in clocks clock from n + fall)) (omega arith) more)

  pub between : (from to first last : ℕ) → from ≤ to → AreBefore p from first → AreBefore p to last → first + falls_in clocks clock from (to - from) ≡ last
  between from to first last upward are_first are_last =
      same_before p to _ _ (subst (λ s. AreBefore p s (first + falls_in clocks clock from (to - from))) (omega (arith, upward)) (counted from first (to - from) are_first)) are_last

  -- so many before the slot after one
  through : (from first slot : ℕ) → from ≤ slot → AreBefore p from first → AreBefore p (suc slot) (first + falls_in clocks clock from (suc (slot - from)))
  through from first slot above are =
      subst (λ s. AreBefore p s (first + falls_in clocks clock from (suc (slot - from)))) (omega (arith, above)) (counted from first (suc (slot - from)) are)

  -- the k-th from a slot on
  before_it : (from first k slot : ℕ) → 0 < k → AreBefore p from first → from ≤ slot → slot < (first + (k - 1)) * p + p / 2 → has_fallen clocks clock from k slot ≡ false
  before_it from first k slot some_k are above below =
      let n : ℕ = falls_in clocks clock from (suc (slot - from)) in
      let now : AreBefore p (suc slot) (first + n) = through from first slot above are in
      elim (cases_lt n k) [
        | inl h ↦ lt-leb k n h
        | inr h ↦ absurd (omega (arith, later (first + (k - 1)) (first + n) p (omega (arith, h, some_k)), now.last, below))
      ]

  from_it : (from first k slot : ℕ) → 0 < k → AreBefore p from first → from ≤ slot → (first + (k - 1)) * p + p / 2 ≤ slot → has_fallen clocks clock from k slot ≡ true
  from_it from first k slot some_k are above there =
      let n : ℕ = falls_in clocks clock from (suc (slot - from)) in
      let now : AreBefore p (suc slot) (first + n) = through from first slot above are in
      elim (cases_lt n k) [
        | inl h ↦ absurd (omega (arith, mul-le (first + n) p (first + (k - 1)) p (omega (arith, h, some_k)) (omega arith), now.next, there))
        | inr h ↦ le-leb k n h
      ]

  pub first_at : (from bound first k at : ℕ) → 0 < k → AreBefore p from first → at ≡ (first + (k - 1)) * p + p / 2 → at < bound → IsFirst (has_fallen clocks clock from k) from bound at
  first_at from bound first k at some_k are is below =
      let upward : from ≤ at = omega (arith, are.next, is, mul-le first p (first + (k - 1)) p (omega arith) (omega arith)) in
      record {
        none_before = λ slot above less. before_it from first k slot some_k are above (omega (arith, less, is));
        there = inl (upward, below, from_it from first k at some_k are upward (omega (arith, is)));
      }

  pub none_at : (from bound first k at : ℕ) → 0 < k → AreBefore p from first → at ≡ (first + (k - 1)) * p + p / 2 → bound ≤ at → IsFirst (has_fallen clocks clock from k) from bound bound
  none_at from bound first k at some_k are is past = record {
    none_before = λ slot above less. before_it from first k slot some_k are above (omega (arith, less, past, is));
    there = inr refl;
  }

-- ---- A clock that never falls

pub none_fall : (clocks : List ClockRec) (clock : Clock) (from n : ℕ) → NeverFalls clocks clock → falls_in clocks clock from n ≡ 0
unfolding falls_in
none_fall clocks clock from zero never = refl
none_fall clocks clock from (suc n) never =
    ap (λ fall. falls_in clocks clock from n + cond fall 1 0) (never (from + n)) ∙ omega (arith, none_fall clocks clock from n never)

pub never_first : (clocks : List ClockRec) (clock : Clock) (from bound k : ℕ) → 0 < k → NeverFalls clocks clock → IsFirst (has_fallen clocks clock from k) from bound bound
never_first clocks clock from bound k some_k never = record {
  none_before = λ slot above less. lt-leb k (falls_in clocks clock from (suc (slot - from))) (omega (arith, some_k, none_fall clocks clock from (suc (slot - from)) never));
  there = inr refl;
}

-- ---- No slots

pub no_slots : (clocks : List ClockRec) (clock : Clock) (from to : ℕ) → to ≤ from → falls_in clocks clock from (to - from) ≡ 0
unfolding falls_in
no_slots clocks clock from to h =
    let none : to - from ≡ 0 = omega (arith, h) in
    ap (falls_in clocks clock from) none
