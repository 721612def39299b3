-- What the line of a slot and the line of a change do with what has been read.
use Rattle.std.proofs.Common.{◌≡◌, ◌≢◌, ℕ, ◌+◌, ◌<◌, ◌≤◌, ◌^◌, Bool, true, false, nat_lt, nat_le, ◌==◌, [], ◌∷◌, ◌++◌, Some, refl, sym, ap, ◌∙◌, arith}
use Rattle.std.specs.Prelude.{if◌then◌else◌}
use Rattle.std.proofs.lemmas.Bool.{and_parts, and_from}
use Rattle.std.proofs.lemmas.Bool.Decides.{nat_tests}
use Rattle.xs_base.specs.Ids.{port_width}
use Rattle.xs_base.specs.Numbers.{Slot}
use Rattle.wave_model.specs.declared.change.WaveChange.{WaveChange}
use Rattle.wave_model.specs.Lines.{PinNumber, slot_line, change_line}
use Rattle.wave_model.specs.Waves.{WaveRec}
use Rattle.wave_model.specs.Reads.{Changes, most_wave_slots, count_of_pins, when, is_full, may_change, changed, after_slot_or_change, after_line}
use Rattle.wave_model.specs.Form.{pin_of_change}
use Rattle.wave_laws.proofs.Slots.{slot_back}
use Rattle.wave_laws.proofs.ChangeLines.{port_back, change_no_slot, change_at, change_back}

-- ---- The tests

-- all pins have changed in slot 0, or one in a later slot
pub record IsFull (wave : WaveRec) (next : PinNumber) : Type 0 where
  pub first : wave.last ≡ 0 → next ≡ count_of_pins wave
  pub later : wave.last ≢ 0 → 0 < next

pub full_where : (wave : WaveRec) (next : PinNumber) → IsFull wave next → is_full wave next ≡ true
full_where wave next h = by (wave.last == 0) refl
  where
    by : (t : Bool) → (wave.last == 0) ≡ t → (if t then next == count_of_pins wave else nat_lt 0 next) ≡ true
    by true e = let same = h.first (grind (arith, nat_tests)) in grind (arith, nat_tests)
    by false e = let some = h.later (grind (arith, nat_tests)) in grind (arith, nat_tests)

pub full_parts : (wave : WaveRec) (next : PinNumber) → is_full wave next ≡ true → IsFull wave next
full_parts wave next h = by (wave.last == 0) refl h
  where
    by : (t : Bool) → (wave.last == 0) ≡ t → (if t then next == count_of_pins wave else nat_lt 0 next) ≡ true → IsFull wave next
    by true e f = record { first = λ z. grind (arith, nat_tests); later = λ n. absurd (n (grind (arith, nat_tests))) }
    by false e f = record { first = λ z. absurd (grind (arith, nat_tests)); later = λ n. grind (arith, nat_tests) }

-- a pin may change after those below `next`
pub record MayChange (wave : WaveRec) (next pin : PinNumber) : Type 0 where
  pub there : pin < count_of_pins wave
  pub not_last : wave.last < most_wave_slots
  pub first : wave.last ≡ 0 → pin ≡ next
  pub later : wave.last ≢ 0 → next ≤ pin

pub may_where : (wave : WaveRec) (next pin : PinNumber) → MayChange wave next pin → may_change wave next pin ≡ true
may_where wave next pin h = and_from _ _ (passes pin (count_of_pins wave) h.there) (and_from _ _ (passes wave.last most_wave_slots h.not_last) (by (wave.last == 0) refl))
  where
    passes : (a b : ℕ) → a < b → nat_lt a b ≡ true
    passes a b l = grind (arith, nat_tests)

    by : (t : Bool) → (wave.last == 0) ≡ t → (if t then pin == next else nat_le next pin) ≡ true
    by true e = let same = h.first (grind (arith, nat_tests)) in grind (arith, nat_tests)
    by false e = let le = h.later (grind (arith, nat_tests)) in grind (arith, nat_tests)

pub may_parts : (wave : WaveRec) (next pin : PinNumber) → may_change wave next pin ≡ true → MayChange wave next pin
may_parts wave next pin h =
    let p = and_parts (nat_lt pin (count_of_pins wave)) _ h in
    let q = and_parts (nat_lt wave.last most_wave_slots) _ p.1 in
    by (wave.last == 0) refl (tells pin (count_of_pins wave) p.0) (tells wave.last most_wave_slots q.0) q.1
  where
    tells : (a b : ℕ) → nat_lt a b ≡ true → a < b
    tells a b l = grind (arith, nat_tests)

    by : (t : Bool) → (wave.last == 0) ≡ t → pin < count_of_pins wave → wave.last < most_wave_slots → (if t then pin == next else nat_le next pin) ≡ true
        → MayChange wave next pin
    by true e a b f = record { there = a; not_last = b; first = λ z. grind (arith, nat_tests); later = λ n. absurd (n (grind (arith, nat_tests))) }
    by false e a b f = record { there = a; not_last = b; first = λ z. absurd (grind (arith, nat_tests)); later = λ n. grind (arith, nat_tests) }

-- ---- The lines

pub slot_read : (wave : WaveRec) (next : PinNumber) (slot : Slot) → wave.last < slot → slot ≤ most_wave_slots → IsFull wave next
    → after_line (Changes wave next) (slot_line slot) ≡ Some (Changes (record wave { last = slot }) 0)
unfolding after_line
slot_read wave next slot less most full =
    ap (after_slot_or_change wave next (slot_line slot)) (slot_back slot most)
    ∙ ap (λ t. when t (Changes (record wave { last = slot }) 0)) (and_from _ _ (passes wave.last slot less) (full_where wave next full))
  where
    passes : (a b : ℕ) → a < b → nat_lt a b ≡ true
    passes a b l = grind (arith, nat_tests)

abbrev pub with_change : WaveRec → WaveChange → WaveRec
with_change wave change = record wave { changes = wave.changes ++ change ∷ [] }

pub change_is : (wave : WaveRec) (change : WaveChange) → change.port < 29 → change.slot ≡ wave.last → change_at wave (pin_of_change change) change.value ≡ change
change_is wave change p e = λ i. record {
  slot = sym e i;
  node = (port_back change p).1 i;
  port = (port_back change p).0 i;
  value = change.value;
}

pub change_read : (wave : WaveRec) (next : PinNumber) (change : WaveChange) → change.port < 29 → change.value < 2 ^ port_width change.port
    → change.slot ≡ wave.last → MayChange wave next (pin_of_change change)
    → after_line (Changes wave next) (change_line change) ≡ Some (Changes (with_change wave change) (pin_of_change change + 1))
unfolding after_line
change_read wave next change p v e may =
    let pin : PinNumber = pin_of_change change in
    ap (after_slot_or_change wave next (change_line change)) (change_no_slot change v)
    ∙ change_back wave next change p v
    ∙ ap (λ t. when t (Changes (changed wave pin change.value) (pin + 1))) (may_where wave next pin may)
    ∙ ap (λ c. Some (Changes (with_change wave c) (pin + 1))) (change_is wave change p e)
