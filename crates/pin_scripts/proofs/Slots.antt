-- Lists in which the slots never fall.
use Rattle.std.proofs.Common.{inl, inr, ◌≡◌, ℕ, zero, suc, ◌-◌, ◌<◌, ◌≤◌, Bool, true, false, ◌||◌, Some, List, [], ◌∷◌, ◌++◌, length, take, get_or, nat_le, refl, sym, ap, ◌∙◌, subst, arith}
use Rattle.std.specs.Prelude.{filter, ◌==◌}
use Rattle.std.specs.List.{list_any}
use Rattle.std.specs.List.Sorted.{IsNonDecreasingBy}
use Rattle.std.proofs.lemmas.Bool.{cases_lt, cond-false, cond-true, eq-eqb}
use Rattle.std.proofs.lemmas.List.Folds.{list_any_at}
use Rattle.std.proofs.lemmas.Bool.Decides.{nat_tests}
use Rattle.xs_base.specs.Numbers.{Slot, Word}
use Rattle.pin_scripts.specs.declared.line.Change.{Change}
use Rattle.pin_scripts.specs.Script.{NeverFall, IsNextWhere, value_after}
use Rattle.pin_scripts.specs.Facts.{IsPast, IsCountUntil, has_slot, same_slot, slot_of_change}

module _ {X : Type 0} (slot_of : X → Slot) where
  -- one more, which does not come before any of them
  pub push : (least : Slot) (xs : List X) (x : X) → NeverFall slot_of least xs → IsPast slot_of (slot_of x) xs → least ≤ slot_of x → NeverFall slot_of least (xs ++ x ∷ [])
  push least [] x h p l = (l, tt)
  push least (y ∷ ys) x h p l = (h.0, push (slot_of y) ys x h.1 p.1 p.0)

  least-at : (least : Slot) (xs : List X) (i : ℕ) (d : X) → NeverFall slot_of least xs → i < length xs → least ≤ slot_of (get_or xs i d)
  least-at least [] i d h l = absurd (omega (arith, l))
  least-at least (x ∷ xs) zero d h l = h.0
  least-at least (x ∷ xs) (suc i) d h l = omega (arith, h.0, least-at (slot_of x) xs i d h.1 (omega (arith, l)))

  pub non-decreasing : (least : Slot) (xs : List X) → NeverFall slot_of least xs → IsNonDecreasingBy slot_of xs
  non-decreasing least [] h i j d le l = absurd (omega (arith, l))
  non-decreasing least (x ∷ xs) h zero zero d le l = omega arith
  non-decreasing least (x ∷ xs) h zero (suc j) d le l = least-at (slot_of x) xs j d h.1 (omega (arith, l))
  non-decreasing least (x ∷ xs) h (suc i) zero d le l = absurd (omega (arith, le))
  non-decreasing least (x ∷ xs) h (suc i) (suc j) d le l = non-decreasing (slot_of x) xs h.1 i j d (omega (arith, le)) (omega (arith, l))

  same-slot : (x y : X) (slot : Slot) → slot_of x ≤ slot_of y → slot_of y ≤ slot → (slot_of x == slot) ≡ true → (slot_of y == slot) ≡ true
  same-slot x y slot a b e = grind (arith, nat_tests)

  or-rest : (b last rest : Bool) → (b ≡ true → rest ≡ true) → last ≡ rest → last ≡ (b || rest)
  or-rest true last rest f e = e ∙ f refl
  or-rest false last rest f e = e

  first-any : (y : X) (ys : List X) (slot : Slot) → (slot_of y == slot) ≡ true → list_any (λ x. slot_of x == slot) (y ∷ ys) ≡ true
  first-any y ys slot e = rw e refl

  same-or : (b c : Bool) → b ≡ c → b ≡ (c || false)
  same-or b true e = e
  same-or b false e = e

  last-at : (least : Slot) (xs : List X) (k : ℕ) (slot : Slot) (last : X) → NeverFall slot_of least xs → IsPast slot_of slot xs → length xs ≡ suc k → last ≡ get_or xs k last
      → (slot_of last == slot) ≡ list_any (λ x. slot_of x == slot) xs
  last-at least [] k slot last h p n e = absurd (omega (arith, n))
  last-at least (x ∷ []) zero slot last h p n e = same-or (slot_of last == slot) (slot_of x == slot) (λ i. slot_of (e i) == slot)
  last-at least (x ∷ []) (suc k) slot last h p n e = absurd (omega (arith, n))
  last-at least (x ∷ y ∷ ys) zero slot last h p n e = absurd (omega (arith, n))
  last-at least (x ∷ y ∷ ys) (suc k) slot last h p n e =
      or-rest (slot_of x == slot) (slot_of last == slot) (list_any (λ z. slot_of z == slot) (y ∷ ys))
      (λ t. first-any y ys slot (same-slot x y slot h.1.0 p.1.0 t))
      (last-at (slot_of x) (y ∷ ys) k slot last h.1 p.1 (omega (arith, n)) e)

  -- where nothing comes after a slot, the last one tells whether one comes in it
  pub last-tells : (xs : List X) (slot : Slot) (last : X) → NeverFall slot_of 0 xs → IsPast slot_of slot xs → 0 < length xs → last ≡ get_or xs (length xs - 1) last
      → (slot_of last == slot) ≡ list_any (λ x. slot_of x == slot) xs
  last-tells xs slot last h p n e = last-at 0 xs (length xs - 1) slot last h p (omega (arith, n)) e

  -- what does not come after a slot is the first so many
  pub cut : (slot : Slot) (xs : List X) (count : ℕ) → IsCountUntil slot_of slot xs count → count ≤ length xs → filter (λ x. nat_le (slot_of x) slot) xs ≡ take count xs
  cut slot [] zero h l = refl
  cut slot [] (suc count) h l = absurd (omega (arith, l))
  cut slot (x ∷ xs) zero h l =
      cond-false (nat_le (slot_of x) slot) _ _ (h.1 0 x (omega arith) (omega arith))
      ∙ cut slot xs zero ((λ k d a b. absurd (omega (arith, b))), λ k d a b. h.1 (suc k) d (omega arith) (omega (arith, b))) (omega arith)
  cut slot (x ∷ xs) (suc count) h l =
      cond-true (nat_le (slot_of x) slot) _ _ (h.0 0 x (omega arith) (omega arith))
      ∙ ap (λ (ys : List X). x ∷ ys)
      (cut slot xs count ((λ k d a b. h.0 (suc k) d (omega arith) (omega (arith, b))), λ k d a b. h.1 (suc k) d (omega (arith, a)) (omega (arith, b))) (omega (arith, l)))

  no-slot : (xs : List X) (slot : Slot) → ((k : ℕ) (d : X) → k < length xs → (slot_of (get_or xs k d) == slot) ≡ false) → list_any (λ x. slot_of x == slot) xs ≡ false
  no-slot [] slot h = refl
  no-slot (x ∷ xs) slot h = rw (h 0 x (omega arith)) (no-slot xs slot (λ k d l. h (suc k) d (omega (arith, l))))

below-differs : (s slot later : Slot) → nat_le s slot ≡ true → slot < later → (s == later) ≡ false
below-differs s slot later e l = grind (arith, nat_tests)

above-differs : (s next between : Slot) → next ≤ s → between < next → (s == between) ≡ false
above-differs s next between e l = grind (arith, nat_tests)

comes-after : (slot next : Slot) → nat_le next slot ≡ false → slot < next
comes-after slot next e = grind (arith, nat_tests)

pub next-none : (slots : List Slot) (slot : Slot) (count : ℕ) → IsCountUntil same_slot slot slots count → length slots ≤ count → (later : Slot) → slot < later → has_slot slots later ≡ false
next-none slots slot count h n later l =
    no-slot same_slot slots later (λ k d b. below-differs (get_or slots k d) slot later (h.0 k d (omega arith) (omega (arith, b, n))) l)

pub next-some : (slots : List Slot) (slot next : Slot) (count : ℕ) → NeverFall same_slot 0 slots → IsCountUntil same_slot slot slots count → count < length slots → next ≡ get_or slots count next
    → IsNextWhere (has_slot slots) slot (Some next)
next-some slots slot next count order h n e = (
  comes-after slot next (subst (λ s. nat_le s slot ≡ false) (sym e) (h.1 count next (omega arith) n)),
  list_any_at (λ s. s == next) slots count next n (subst (λ s. (s == next) ≡ true) e (eq-eqb next next refl)),
  λ between after before. no-slot same_slot slots between (λ k d l. elim (cases_lt k count) [
    | inl b ↦ below-differs (get_or slots k d) slot between (h.0 k d (omega arith) b) after
    | inr b ↦
        let least : get_or slots count d ≤ get_or slots k d = non-decreasing same_slot 0 slots order count k d b l in
        let same : get_or slots count next ≡ get_or slots count d = get_or-default slots count next d n in
        above-differs (get_or slots k d) next between (omega (arith, least, same, e)) before
  ]),
)
  where
    get_or-default : (xs : List ℕ) (i d e : ℕ) → i < length xs → get_or xs i d ≡ get_or xs i e
    get_or-default [] i d e l = absurd (omega (arith, l))
    get_or-default (x ∷ xs) zero d e l = refl
    get_or-default (x ∷ xs) (suc i) d e l = get_or-default xs i d e (omega (arith, l))

-- the last of the first changes
last-value : (value : Word) (changes : List Change) (k : ℕ) (d : Change) → k < length changes → value_after value (take (suc k) changes) ≡ (get_or changes k d).value
last-value value [] k d l = absurd (omega (arith, l))
last-value value (c ∷ cs) zero d l = refl
last-value value (c ∷ cs) (suc k) d l = last-value c.value cs k d (omega (arith, l))

-- what the changes until a slot leave, where there are some
pub shown-last : (changes : List Change) (slot : Slot) (count : ℕ) (d : Change) → IsCountUntil slot_of_change slot changes count → count ≤ length changes → 0 < count
    → (get_or changes (count - 1) d).value ≡ value_after 0 (filter (λ (c : Change). nat_le c.slot slot) changes)
shown-last changes slot zero d h l p = absurd (omega (arith, p))
shown-last changes slot (suc k) d h l p =
    let q : suc k - 1 ≡ k = omega arith in
    rw (cut slot_of_change slot changes (suc k) h l, q) (sym (last-value 0 changes k d (omega (arith, l))))

-- and where there are none
pub shown-none : (changes : List Change) (slot : Slot) → IsCountUntil slot_of_change slot changes 0 → value_after 0 (filter (λ (c : Change). nat_le c.slot slot) changes) ≡ 0
shown-none changes slot h = rw (cut slot_of_change slot changes 0 h (omega arith)) refl
