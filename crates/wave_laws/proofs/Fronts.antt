-- What is kept of a wave of which the changes are being read, and the lines from which they have been read.
use Rattle.std.proofs.Common.{◌≡◌, ◌≢◌, ◌⊎◌, ℕ, ◌+◌, ◌<◌, ◌≤◌, ◌^◌, Bool, true, false, ◌==◌, List, [], ◌∷◌, ◌++◌, length, map, filter, refl, sym, ap, ◌∙◌, ⊎_elim, inl, inr, arith}
use Rattle.std.specs.Prelude.{if◌then◌else◌}
use Rattle.std.specs.List.{AllByRecursion}
use Rattle.std.proofs.lemmas.Bool.{cond-true, cond-false}
use Rattle.std.proofs.lemmas.Bool.Decides.{nat_tests}
use Rattle.xs_base.specs.Ids.{port_width}
use Rattle.xs_base.specs.Numbers.{Slot}
use Rattle.sys_plan.specs.Plan.{numbers_from}
use Rattle.wave_model.specs.declared.change.WaveChange.{WaveChange}
use Rattle.wave_model.specs.Lines.{PinNumber}
use Rattle.wave_model.specs.Waves.{WaveRec}
use Rattle.wave_model.specs.Reads.{count_of_pins, most_wave_slots}
use Rattle.wave_model.specs.Form.{pin_of_change, IsWave, IsChange, ComesAfter, AreInOrder}
use Rattle.wave_laws.proofs.NodeNumbers.{AreNodes}
use Rattle.wave_laws.proofs.DeclaredAs.{numbers_push}
use Rattle.wave_laws.proofs.Steps.{IsFull, MayChange, with_change}
use Rattle.wave_laws.proofs.ChangesRead.{is_first, pins_at_0}

-- a change of a pin that is there
pub record IsPinChange (nodes : ℕ) (change : WaveChange) : Type 0 where
  pub node : change.node < nodes
  pub port : change.port < 29
  pub value : change.value < 2 ^ port_width change.port

-- the last change is in an earlier slot, or in this one at the pin before `next`
abbrev pub IsLast : Slot → PinNumber → WaveChange → Type 0
IsLast slot next change = ((change.slot < slot) × (next ≡ 0)) ⊎ ((change.slot ≡ slot) × (next ≡ pin_of_change change + 1))

abbrev pub EndAt : Slot → PinNumber → List WaveChange → Type 0
EndAt slot next [] = next ≡ 0
EndAt slot next (change ∷ []) = IsLast slot next change
EndAt slot next (change ∷ other ∷ changes) = EndAt slot next (other ∷ changes)

-- what has been read of a wave, in whose last slot the pins below `next` have changed
pub record IsFront (wave : WaveRec) (next : PinNumber) : Type 0 where
  pub nodes : AreNodes wave.nodes
  pub last : wave.last ≤ most_wave_slots
  pub not_last : 0 < next → wave.last < most_wave_slots
  pub changes : AllByRecursion (IsPinChange (length wave.nodes)) wave.changes
  pub in_order : AreInOrder wave.changes
  pub end : EndAt wave.last next wave.changes
  pub few : wave.last ≡ 0 → next ≤ count_of_pins wave
  pub first : wave.last ≡ 0 → pins_at_0 wave.changes ≡ numbers_from 0 next
  pub later : wave.last ≢ 0 → pins_at_0 wave.changes ≡ numbers_from 0 (count_of_pins wave)

-- ---- A slot more

end_later : (slot after : Slot) (next : PinNumber) (changes : List WaveChange) → slot < after → EndAt slot next changes → EndAt after 0 changes
end_later slot after next [] l h = refl
end_later slot after next (change ∷ []) l h = inl (⊎_elim (λ a. omega (arith, a.0, l)) (λ a. omega (arith, a.0, l)) h, refl)
end_later slot after next (change ∷ other ∷ changes) l h = end_later slot after next (other ∷ changes) l h

pub front_slot : (wave : WaveRec) (next : PinNumber) (slot : Slot) → wave.last < slot → slot ≤ most_wave_slots → IsFull wave next → IsFront wave next
    → IsFront (record wave { last = slot }) 0
front_slot wave next slot l most full h = record {
  nodes = h.nodes;
  last = most;
  not_last = λ n. absurd (omega (arith, n));
  changes = h.changes;
  in_order = h.in_order;
  end = end_later wave.last slot next wave.changes l h.end;
  few = λ z. omega arith;
  first = λ z. absurd (omega (arith, z, l));
  later = λ n. by (wave.last == 0) refl;
}
  where
    by : (t : Bool) → (wave.last == 0) ≡ t → pins_at_0 wave.changes ≡ numbers_from 0 (count_of_pins wave)
    by true e = let zero : wave.last ≡ 0 = grind (arith, nat_tests) in h.first zero ∙ ap (numbers_from 0) (full.first zero)
    by false e = h.later (grind (arith, nat_tests))

-- ---- A change more

each_push : (nodes : ℕ) (changes : List WaveChange) (change : WaveChange) → AllByRecursion (IsPinChange nodes) changes → IsPinChange nodes change
    → AllByRecursion (IsPinChange nodes) (changes ++ change ∷ [])
each_push nodes [] change h k = (k, tt)
each_push nodes (first ∷ changes) change h k = (h.0, each_push nodes changes change h.1 k)

comes_after : (slot : Slot) (next : PinNumber) (before change : WaveChange) → IsLast slot next before → change.slot ≡ slot → next ≤ pin_of_change change
    → ComesAfter before change
comes_after slot next before change h e l =
    ⊎_elim (λ a. inl (omega (arith, a.0, e))) (λ a. inr (a.0 ∙ sym e, omega (arith, a.1, l))) h

order_push : (slot : Slot) (next : PinNumber) (changes : List WaveChange) (change : WaveChange) → AreInOrder changes → EndAt slot next changes
    → change.slot ≡ slot → next ≤ pin_of_change change → AreInOrder (changes ++ change ∷ [])
order_push slot next [] change h k e l = tt
order_push slot next (first ∷ []) change h k e l = (comes_after slot next first change k e l, tt)
order_push slot next (first ∷ second ∷ changes) change h k e l = (h.0, order_push slot next (second ∷ changes) change h.1 k e l)

end_push : (slot : Slot) (changes : List WaveChange) (change : WaveChange) → change.slot ≡ slot → EndAt slot (pin_of_change change + 1) (changes ++ change ∷ [])
end_push slot [] change e = inr (e, refl)
end_push slot (first ∷ []) change e = inr (e, refl)
end_push slot (first ∷ second ∷ changes) change e = end_push slot (second ∷ changes) change e

-- in slot 0
pins_push_yes : (changes : List WaveChange) (change : WaveChange) → change.slot ≡ 0 → pins_at_0 (changes ++ change ∷ []) ≡ pins_at_0 changes ++ pin_of_change change ∷ []
pins_push_yes [] change e = let yes : is_first change ≡ true = grind (arith, nat_tests) in ap (map pin_of_change) (cond-true _ _ _ yes)
pins_push_yes (first ∷ changes) change e = by (is_first first) (pins_push_yes changes change e)
  where
    by : (t : Bool) → pins_at_0 (changes ++ change ∷ []) ≡ pins_at_0 changes ++ pin_of_change change ∷ []
        → map pin_of_change (if t then first ∷ filter is_first (changes ++ change ∷ []) else filter is_first (changes ++ change ∷ []))
        ≡ map pin_of_change (if t then first ∷ filter is_first changes else filter is_first changes) ++ pin_of_change change ∷ []
    by true h = ap (λ ps. pin_of_change first ∷ ps) h
    by false h = h

-- in a later slot
pins_push_no : (changes : List WaveChange) (change : WaveChange) → change.slot ≢ 0 → pins_at_0 (changes ++ change ∷ []) ≡ pins_at_0 changes
pins_push_no [] change e = let no : is_first change ≡ false = grind (arith, nat_tests) in ap (map pin_of_change) (cond-false _ _ _ no)
pins_push_no (first ∷ changes) change e = by (is_first first) (pins_push_no changes change e)
  where
    by : (t : Bool) → pins_at_0 (changes ++ change ∷ []) ≡ pins_at_0 changes
        → map pin_of_change (if t then first ∷ filter is_first (changes ++ change ∷ []) else filter is_first (changes ++ change ∷ []))
        ≡ map pin_of_change (if t then first ∷ filter is_first changes else filter is_first changes)
    by true h = ap (λ ps. pin_of_change first ∷ ps) h
    by false h = h

pub front_change : (wave : WaveRec) (next : PinNumber) (change : WaveChange) → IsPinChange (length wave.nodes) change → change.slot ≡ wave.last
    → MayChange wave next (pin_of_change change) → IsFront wave next → IsFront (with_change wave change) (pin_of_change change + 1)
front_change wave next change c e may h = record {
  nodes = h.nodes;
  last = h.last;
  not_last = λ n. may.not_last;
  changes = each_push (length wave.nodes) wave.changes change h.changes c;
  in_order = order_push wave.last next wave.changes change h.in_order h.end e (after_next (wave.last == 0) refl);
  end = end_push wave.last wave.changes change e;
  few = λ z. omega (arith, may.there);
  first = λ z.
      let pin : pin_of_change change ≡ 0 + next = omega (arith, may.first z) in
      pins_push_yes wave.changes change (e ∙ z)
      ∙ (λ i. h.first z i ++ pin i ∷ [])
      ∙ sym (numbers_push 0 next)
      ∙ ap (λ k. numbers_from 0 (k + 1)) (sym (may.first z));
  later = λ n. pins_push_no wave.changes change (λ z. n (sym e ∙ z)) ∙ h.later n;
}
  where
    after_next : (t : Bool) → (wave.last == 0) ≡ t → next ≤ pin_of_change change
    after_next true e = omega (arith, may.first (grind (arith, nat_tests)))
    after_next false e = may.later (grind (arith, nat_tests))

-- ---- The whole wave

all_before : (nodes : ℕ) (wave : WaveRec) (changes : List WaveChange) → nodes ≡ length wave.nodes → AllByRecursion (IsPinChange nodes) changes → AreInOrder changes
    → EndAt wave.last 0 changes → AllByRecursion (IsChange wave) changes
all_before nodes wave [] e h o k = tt
all_before nodes wave (change ∷ []) e h o k =
    (record { node = omega (arith, e, h.0.node); port = h.0.port; slot = ⊎_elim (λ a. a.0) (λ a. absurd (omega (arith, a.1))) k; value = h.0.value }, tt)
all_before nodes wave (change ∷ other ∷ changes) e h o k =
    let later = all_before nodes wave (other ∷ changes) e h.1 o.1 k in
    let less : change.slot < wave.last = ⊎_elim (λ a. omega (arith, a, later.0.slot)) (λ a. omega (arith, a.0, later.0.slot)) o.0 in
    (record { node = omega (arith, e, h.0.node); port = h.0.port; slot = less; value = h.0.value }, later)

pub front_wave : (wave : WaveRec) → IsFront wave 0 → IsWave wave
front_wave wave h = record {
  few_nodes = h.nodes.few;
  numbers = h.nodes.small;
  ascending = h.nodes.ascending;
  last = h.last;
  changes = all_before (length wave.nodes) wave wave.changes refl h.changes h.in_order h.end;
  in_order = h.in_order;
  first = h.later;
}
