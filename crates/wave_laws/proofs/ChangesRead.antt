-- The lines of changes in their order are read as these changes.
use Rattle.std.proofs.Common.{◌≡◌, ◌≢◌, ◌⊎◌, ℕ, zero, suc, ◌+◌, ◌-◌, ◌<◌, ◌≤◌, Bool, true, false, ◌==◌, List, [], ◌∷◌, ◌++◌, map, filter, Some, refl}
use Rattle.std.proofs.Common.{sym, ap, ◌∙◌, ⊎_elim, inl, inr, append_assoc, append-nil, arith}
use Rattle.std.specs.Prelude.{if◌then◌else◌}
use Rattle.std.specs.List.{AllByRecursion}
use Rattle.std.proofs.lemmas.Bool.{cond-true, cond-false}
use Rattle.std.proofs.lemmas.Bool.Decides.{nat_tests}
use Rattle.xs_base.specs.Numbers.{Slot}
use Rattle.sys_plan.specs.Plan.{numbers_from}
use Rattle.wave_model.specs.declared.change.WaveChange.{WaveChange}
use Rattle.wave_model.specs.Lines.{PinNumber, slot_line, change_line}
use Rattle.wave_model.specs.Waves.{WaveRec, slot_lines, change_lines}
use Rattle.wave_model.specs.Reads.{Changes, count_of_pins, most_wave_slots}
use Rattle.wave_model.specs.Form.{pin_of_change, IsChange, AreInOrder}
use Rattle.wave_laws.proofs.ReadOver.{read_over, over_none, over_next}
use Rattle.wave_laws.proofs.Steps.{IsFull, MayChange, slot_read, change_read}

-- ---- Their order

-- changes that may come after a slot in which the pins below `next` have changed
abbrev pub Follow : Slot → PinNumber → List WaveChange → Type 0
Follow slot next [] = Unit {0}
Follow slot next (change ∷ changes) =
    ((slot < change.slot) ⊎ ((slot ≡ change.slot) × (next ≤ pin_of_change change))) × Follow change.slot (pin_of_change change + 1) changes

follow_one : (change : WaveChange) (changes : List WaveChange) → AreInOrder (change ∷ changes) → Follow change.slot (pin_of_change change + 1) changes
follow_one change [] h = tt
follow_one change (next ∷ changes) h =
    (⊎_elim (λ l. inl l) (λ e. inr (e.0, omega (arith, e.1))) h.0, follow_one next changes h.1)

pub follow_start : (changes : List WaveChange) → AreInOrder changes → Follow 0 0 changes
follow_start [] h = tt
follow_start (change ∷ changes) h = (grind arith, follow_one change changes h)

-- ---- The pins of slot 0

abbrev pub is_first : WaveChange → Bool
is_first change = change.slot == 0

abbrev pub pins_at_0 : List WaveChange → List PinNumber
pins_at_0 changes = map pin_of_change (filter is_first changes)

-- there is none after a later slot
none_later : (slot : Slot) (next : PinNumber) (changes : List WaveChange) → 0 < slot → Follow slot next changes → pins_at_0 changes ≡ []
none_later slot next [] l h = refl
none_later slot next (change ∷ changes) l h =
    let later : 0 < change.slot = grind (arith, h.0) in
    let no : is_first change ≡ false = grind (arith, nat_tests) in
    ap (map pin_of_change) (cond-false _ _ _ no) ∙ none_later change.slot (pin_of_change change + 1) changes later h.1

no_first : (slot : Slot) (change : WaveChange) (rest : List WaveChange) → slot < change.slot → Follow change.slot (pin_of_change change + 1) rest
    → pins_at_0 (change ∷ rest) ≡ []
no_first slot change rest l h =
    let no : is_first change ≡ false = grind (arith, nat_tests) in
    ap (map pin_of_change) (cond-false _ _ _ no) ∙ none_later change.slot (pin_of_change change + 1) rest (omega arith) h

none_left : (from count : ℕ) → [] ≡ numbers_from from count → count ≡ 0
none_left from zero h = refl
none_left from (suc count) h = absurd (cc)

one_left : (pin from count : ℕ) (pins : List ℕ) → pin ∷ pins ≡ numbers_from from count
    → (pin ≡ from) × (0 < count) × (pins ≡ numbers_from (from + 1) (count - 1))
one_left pin from zero pins h = absurd (cc)
one_left pin from (suc count) pins h =
    let k : count ≡ suc count - 1 = omega arith in
    let rest : pins ≡ numbers_from (from + 1) count = cc in
    (cc, omega arith, rest ∙ ap (numbers_from (from + 1)) k)

-- ---- The walk

-- where the walk stands before the rest of the changes of a wave
pub record IsAt (wave : WaveRec) (slot : Slot) (next : PinNumber) (rest : List WaveChange) : Type 0 where
  pub follow : Follow slot next rest
  pub few : slot ≡ 0 → next ≤ count_of_pins wave
  pub first : slot ≡ 0 → pins_at_0 rest ≡ numbers_from next (count_of_pins wave - next)
  pub later : slot ≢ 0 → 0 < next
  pub before : slot < wave.last

abbrev pub so_far : WaveRec → List WaveChange → Slot → WaveRec
so_far wave done slot = record { nodes = wave.nodes; changes = done; last = slot }

-- no more pins are to come in this slot
full_at : (wave : WaveRec) (done : List WaveChange) (slot : Slot) (next : PinNumber) (rest : List WaveChange) → IsAt wave slot next rest
    → (slot ≡ 0 → pins_at_0 rest ≡ []) → IsFull (so_far wave done slot) next
full_at wave done slot next rest h none = record {
  first = λ z. let left = none_left next (count_of_pins wave - next) (sym (none z) ∙ h.first z) in omega (arith, left, h.few z);
  later = h.later;
}

pin_there : (wave : WaveRec) (change : WaveChange) → IsChange wave change → pin_of_change change < count_of_pins wave
pin_there wave change c = omega (arith, c.node, c.port)

-- a change in slot 0 is one of the pin that comes next
record FirstPin (wave : WaveRec) (next : PinNumber) (change : WaveChange) (rest : List WaveChange) : Type 0 where
  pub pin : pin_of_change change ≡ next
  pub rest_is : pins_at_0 rest ≡ numbers_from (next + 1) (count_of_pins wave - next - 1)

first_pin : (wave : WaveRec) (slot : Slot) (next : PinNumber) (change : WaveChange) (rest : List WaveChange) → slot ≡ 0 → change.slot ≡ slot
    → IsAt wave slot next (change ∷ rest) → FirstPin wave next change rest
first_pin wave slot next change rest z e h =
    let yes : is_first change ≡ true = grind (arith, nat_tests) in
    let all : pins_at_0 (change ∷ rest) ≡ pin_of_change change ∷ pins_at_0 rest = ap (map pin_of_change) (cond-true _ _ _ yes) in
    let one = one_left (pin_of_change change) next (count_of_pins wave - next) (pins_at_0 rest) (sym all ∙ h.first z) in
    record { pin = one.0; rest_is = one.2 }

-- a change in the same slot
same_may : (wave : WaveRec) (done : List WaveChange) (slot : Slot) (next : PinNumber) (change : WaveChange) (rest : List WaveChange)
    → wave.last ≤ most_wave_slots → IsChange wave change → change.slot ≡ slot → IsAt wave slot next (change ∷ rest)
    → MayChange (so_far wave done slot) next (pin_of_change change)
same_may wave done slot next change rest most c e h = record {
  there = pin_there wave change c;
  not_last = omega (arith, h.before, most);
  first = λ z. (first_pin wave slot next change rest z e h).pin;
  later = λ n. grind (arith, h.follow.0);
}

-- a change in a later slot
later_may : (wave : WaveRec) (done : List WaveChange) (change : WaveChange)
    → wave.last ≤ most_wave_slots → IsChange wave change → 0 < change.slot → MayChange (so_far wave done change.slot) 0 (pin_of_change change)
later_may wave done change most c l = record {
  there = pin_there wave change c;
  not_last = omega (arith, c.slot, most);
  first = λ z. absurd (omega (arith, z, l));
  later = λ n. omega arith;
}

-- what comes after a change
next_at : (wave : WaveRec) (slot : Slot) (next : PinNumber) (change : WaveChange) (rest : List WaveChange) → IsChange wave change
    → IsAt wave slot next (change ∷ rest) → IsAt wave change.slot (pin_of_change change + 1) rest
next_at wave slot next change rest c h = record {
  follow = h.follow.1;
  few = λ z. omega (arith, pin_there wave change c);
  first = λ z.
      let same : change.slot ≡ slot = grind (arith, h.follow.0) in
      let one = first_pin wave slot next change rest (sym same ∙ z) same h in
      one.rest_is ∙ (λ i. numbers_from (sym one.pin i + 1) (fewer (count_of_pins wave) (pin_of_change change) next one.pin i));
  later = λ n. omega arith;
  before = c.slot;
}
  where
    fewer : (count pin next : ℕ) → pin ≡ next → count - next - 1 ≡ count - (pin + 1)
    fewer count pin next e = omega arith

-- the lines of a change, and that of its slot where it is a later one
lines_read : (wave : WaveRec) (done : List WaveChange) (slot : Slot) (next : PinNumber) (change : WaveChange) (rest : List WaveChange) (more : List (List ℕ))
    → wave.last ≤ most_wave_slots → IsChange wave change → IsAt wave slot next (change ∷ rest)
    → read_over (Changes (so_far wave done slot) next) (slot_lines slot change.slot ++ (change_line change ∷ more))
    ≡ read_over (Changes (so_far wave (done ++ change ∷ []) change.slot) (pin_of_change change + 1)) more
lines_read wave done slot next change rest more most c h = by (change.slot == slot) refl
  where
    by : (t : Bool) → (change.slot == slot) ≡ t
        → read_over (Changes (so_far wave done slot) next) ((if t then [] else slot_line change.slot ∷ []) ++ (change_line change ∷ more))
        ≡ read_over (Changes (so_far wave (done ++ change ∷ []) change.slot) (pin_of_change change + 1)) more
    by true e =
        let same : change.slot ≡ slot = grind (arith, nat_tests) in
        over_next (Changes (so_far wave done slot) next) (Changes (so_far wave (done ++ change ∷ []) slot) (pin_of_change change + 1)) (change_line change) more
        (change_read (so_far wave done slot) next change c.port c.value same (same_may wave done slot next change rest most c same h))
        ∙ ap (λ k. read_over (Changes (so_far wave (done ++ change ∷ []) k) (pin_of_change change + 1)) more) (sym same)
    by false e =
        let less : slot < change.slot = grind (arith, nat_tests, h.follow.0) in
        let none : slot ≡ 0 → pins_at_0 (change ∷ rest) ≡ [] = λ z. no_first slot change rest less h.follow.1 in
        over_next (Changes (so_far wave done slot) next) (Changes (so_far wave done change.slot) 0) (slot_line change.slot) (change_line change ∷ more)
        (slot_read (so_far wave done slot) next change.slot less (omega (arith, c.slot, most)) (full_at wave done slot next (change ∷ rest) h none))
        ∙ over_next (Changes (so_far wave done change.slot) 0) (Changes (so_far wave (done ++ change ∷ []) change.slot) (pin_of_change change + 1)) (change_line change) more
        (change_read (so_far wave done change.slot) 0 change c.port c.value refl (later_may wave done change most c (omega (arith, less))))

-- all lines of changes, and that of the last slot
pub changes_read : (wave : WaveRec) (done : List WaveChange) (slot : Slot) (next : PinNumber) (rest : List WaveChange)
    → wave.last ≤ most_wave_slots → AllByRecursion (IsChange wave) rest → IsAt wave slot next rest
    → read_over (Changes (so_far wave done slot) next) (change_lines slot rest ++ slot_line wave.last ∷ []) ≡ Some (Changes (so_far wave (done ++ rest) wave.last) 0)
changes_read wave done slot next [] most c h =
    over_next (Changes (so_far wave done slot) next) (Changes (so_far wave done wave.last) 0) (slot_line wave.last) []
    (slot_read (so_far wave done slot) next wave.last h.before most (full_at wave done slot next [] h (λ z. refl)))
    ∙ over_none (Changes (so_far wave done wave.last) 0)
    ∙ ap (λ cs. Some (Changes (so_far wave cs wave.last) 0)) (sym (append-nil done))
changes_read wave done slot next (change ∷ rest) most c h =
    ap (read_over (Changes (so_far wave done slot) next))
    (append_assoc (slot_lines slot change.slot) (change_line change ∷ change_lines change.slot rest) (slot_line wave.last ∷ []))
    ∙ lines_read wave done slot next change rest (change_lines change.slot rest ++ slot_line wave.last ∷ []) most c.0 h
    ∙ changes_read wave (done ++ change ∷ []) change.slot (pin_of_change change + 1) rest most c.1 (next_at wave slot next change rest c.0 h)
    ∙ ap (λ cs. Some (Changes (so_far wave cs wave.last) 0)) (append_assoc done (change ∷ []) rest)
