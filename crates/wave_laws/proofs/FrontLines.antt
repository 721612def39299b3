-- The lines from which a wave has been read, as far as it has been.
use Rattle.std.proofs.Common.{◌≡◌, ℕ, ◌+◌, ◌<◌, ◌≤◌, Bool, true, false, ◌==◌, List, [], ◌∷◌, ◌++◌, length, refl, sym, ap, ◌∙◌, ⊎_elim, append_assoc, append-nil, arith}
use Rattle.std.specs.Prelude.{if◌then◌else◌}
use Rattle.std.proofs.lemmas.Bool.{cond-true, cond-false}
use Rattle.std.proofs.lemmas.Bool.Decides.{nat_tests}
use Rattle.xs_base.specs.Numbers.{Slot}
use Rattle.pin_scripts.specs.Script.{NodeNumber}
use Rattle.wave_model.specs.declared.change.WaveChange.{WaveChange}
use Rattle.wave_model.specs.Lines.{PinNumber, first_line, nodes_lines, end_of_definitions, slot_line, change_line}
use Rattle.wave_model.specs.Waves.{WaveRec, slot_lines, change_lines, all_change_lines, wave_lines}
use Rattle.wave_model.specs.Reads.{most_wave_slots}
use Rattle.wave_model.specs.Form.{pin_of_change, IsWave}
use Rattle.wave_laws.proofs.DeclaredAs.{IsDeclaredText}
use Rattle.wave_laws.proofs.Steps.{IsFull, MayChange, with_change}
use Rattle.wave_laws.proofs.WaveRead.{no_changes}
use Rattle.wave_laws.proofs.Fronts.{IsPinChange, IsFront, IsLast, EndAt, front_slot, front_change, front_wave}

-- the line of a slot under which no pin has changed yet
abbrev pub open_slot : Slot → PinNumber → List (List ℕ)
open_slot slot next = if next == 0 then slot_lines 0 slot else []

abbrev pub front_lines : WaveRec → PinNumber → List (List ℕ)
front_lines wave next = slot_line 0 ∷ (change_lines 0 wave.changes ++ open_slot wave.last next)

abbrev pub declared_lines : List NodeNumber → List (List ℕ) → List (List ℕ)
declared_lines numbers lines = first_line ∷ (nodes_lines 0 numbers ++ (end_of_definitions ∷ lines))

pub record IsFrontText (wave : WaveRec) (next : PinNumber) (lines : List (List ℕ)) : Type 0 where
  pub front : IsFront wave next
  pub lines_are : lines ≡ declared_lines wave.nodes (front_lines wave next)

declared_append : (numbers : List NodeNumber) (xs ys : List (List ℕ)) → declared_lines numbers xs ++ ys ≡ declared_lines numbers (xs ++ ys)
declared_append numbers xs ys = ap (λ ls. first_line ∷ ls) (append_assoc (nodes_lines 0 numbers) (end_of_definitions ∷ xs) ys)

-- ---- Slot 0

pub start_text : (numbers : List NodeNumber) (lines : List (List ℕ)) → IsDeclaredText numbers lines
    → IsFrontText (record { nodes = numbers; changes = []; last = 0 }) 0 (lines ++ slot_line 0 ∷ [])
start_text numbers lines h = record {
  front = record {
    nodes = h.nodes;
    last = omega arith;
    not_last = λ n. omega arith;
    changes = tt;
    in_order = tt;
    end = refl;
    few = λ z. omega arith;
    first = λ z. refl;
    later = λ n. absurd (n refl);
  };
  lines_are = ap (λ ls. ls ++ slot_line 0 ∷ []) h.lines_are ∙ declared_append numbers [] (slot_line 0 ∷ []);
}

-- ---- A slot more

open_none : (wave : WaveRec) (next : PinNumber) → IsFull wave next → open_slot wave.last next ≡ []
open_none wave next full = by (next == 0) refl (wave.last == 0) refl
  where
    by : (t : Bool) → (next == 0) ≡ t → (u : Bool) → (wave.last == 0) ≡ u → (if t then (if u then [] else slot_line wave.last ∷ []) else []) ≡ []
    by true e true f = refl
    by true e false f =
        let some : 0 < next = full.later (grind (arith, nat_tests)) in
        absurd (grind (arith, nat_tests))
    by false e u f = refl

open_new : (slot : Slot) → 0 < slot → open_slot slot 0 ≡ slot_line slot ∷ []
open_new slot h = let no : (slot == 0) ≡ false = grind (arith, nat_tests) in cond-false _ _ _ no

pub slot_text : (wave : WaveRec) (next : PinNumber) (slot : Slot) (lines : List (List ℕ)) → wave.last < slot → slot ≤ most_wave_slots → IsFull wave next
    → IsFrontText wave next lines → IsFrontText (record wave { last = slot }) 0 (lines ++ slot_line slot ∷ [])
slot_text wave next slot lines l most full h = record {
  front = front_slot wave next slot l most full h.front;
  lines_are =
      ap (λ ls. ls ++ slot_line slot ∷ []) h.lines_are
      ∙ declared_append wave.nodes (front_lines wave next) (slot_line slot ∷ [])
      ∙ ap (λ ls. declared_lines wave.nodes (slot_line 0 ∷ ls))
      (ap (λ ls. (change_lines 0 wave.changes ++ ls) ++ slot_line slot ∷ []) (open_none wave next full)
      ∙ ap (λ ls. ls ++ slot_line slot ∷ []) (append-nil (change_lines 0 wave.changes))
      ∙ ap (λ ls. change_lines 0 wave.changes ++ ls) (sym (open_new slot (omega (arith, l)))));
}

-- ---- A change more

abbrev last_slot : Slot → List WaveChange → Slot
last_slot before [] = before
last_slot before (change ∷ changes) = last_slot change.slot changes

change_lines_push : (before : Slot) (changes : List WaveChange) (change : WaveChange)
    → change_lines before (changes ++ change ∷ []) ≡ change_lines before changes ++ (slot_lines (last_slot before changes) change.slot ++ change_line change ∷ [])
change_lines_push before [] change = refl
change_lines_push before (first ∷ changes) change =
    ap (λ ls. slot_lines before first.slot ++ (change_line first ∷ ls)) (change_lines_push first.slot changes change)
    ∙ sym (append_assoc (slot_lines before first.slot) (change_line first ∷ change_lines first.slot changes)
    (slot_lines (last_slot first.slot changes) change.slot ++ change_line change ∷ []))

-- the line of the slot stands there already, or is not needed
open_last : (slot : Slot) (next : PinNumber) (change : WaveChange) → IsLast slot next change → slot_lines change.slot slot ≡ open_slot slot next
open_last slot next change h = ⊎_elim
    (λ a.
    let l : change.slot < slot = a.0 in
    let no : (slot == change.slot) ≡ false = grind (arith, nat_tests) in
    cond-false _ _ _ no ∙ sym (ap (open_slot slot) a.1 ∙ open_new slot (omega (arith, l))))
    (λ a.
    let same : change.slot ≡ slot = a.0 in
    let yes : (slot == change.slot) ≡ true = grind (arith, nat_tests) in
    let some : next ≡ pin_of_change change + 1 = a.1 in
    let no : (next == 0) ≡ false = grind (arith, nat_tests) in
    cond-true _ _ _ yes ∙ sym (cond-false _ _ _ no))
    h

open_some : (before slot : Slot) (next : PinNumber) (change : WaveChange) (changes : List WaveChange) → EndAt slot next (change ∷ changes)
    → slot_lines (last_slot before (change ∷ changes)) slot ≡ open_slot slot next
open_some before slot next change [] h = open_last slot next change h
open_some before slot next change (other ∷ changes) h = open_some change.slot slot next other changes h

open_is : (slot : Slot) (next : PinNumber) (changes : List WaveChange) → EndAt slot next changes → slot_lines (last_slot 0 changes) slot ≡ open_slot slot next
open_is slot next [] h = sym (ap (open_slot slot) h)
open_is slot next (change ∷ changes) h = open_some 0 slot next change changes h

none_open : (slot : Slot) (pin : PinNumber) → open_slot slot (pin + 1) ≡ []
none_open slot pin = let no : (pin + 1 == 0) ≡ false = grind (arith, nat_tests) in cond-false _ _ _ no

pub change_text : (wave : WaveRec) (next : PinNumber) (change : WaveChange) (lines : List (List ℕ)) → IsPinChange (length wave.nodes) change → change.slot ≡ wave.last
    → MayChange wave next (pin_of_change change) → IsFrontText wave next lines
    → IsFrontText (with_change wave change) (pin_of_change change + 1) (lines ++ change_line change ∷ [])
change_text wave next change lines c e may h =
    let own = change_line change ∷ [] in
    record {
      front = front_change wave next change c e may h.front;
      lines_are =
          ap (λ ls. ls ++ own) h.lines_are
          ∙ declared_append wave.nodes (front_lines wave next) own
          ∙ ap (λ ls. declared_lines wave.nodes (slot_line 0 ∷ ls))
          (append_assoc (change_lines 0 wave.changes) (open_slot wave.last next) own
          ∙ ap (λ ls. change_lines 0 wave.changes ++ (ls ++ own)) (sym (open_is wave.last next wave.changes h.front.end))
          ∙ ap (λ slot. change_lines 0 wave.changes ++ (slot_lines (last_slot 0 wave.changes) slot ++ own)) (sym e)
          ∙ sym (change_lines_push 0 wave.changes change)
          ∙ sym (append-nil (change_lines 0 (wave.changes ++ change ∷ [])))
          ∙ ap (λ ls. change_lines 0 (wave.changes ++ change ∷ []) ++ ls) (sym (none_open wave.last (pin_of_change change))));
    }

-- ---- The whole wave

whole_lines : (wave : WaveRec) → IsWave wave → front_lines wave 0 ≡ all_change_lines wave ++ slot_line wave.last ∷ []
whole_lines wave h = by (wave.last == 0) refl
  where
    by : (t : Bool) → (wave.last == 0) ≡ t
        → slot_line 0 ∷ (change_lines 0 wave.changes ++ (if t then [] else slot_line wave.last ∷ []))
        ≡ (if t then [] else slot_line 0 ∷ change_lines 0 wave.changes) ++ slot_line wave.last ∷ []
    by true e =
        let zero : wave.last ≡ 0 = grind (arith, nat_tests) in
        let none = no_changes wave zero wave.changes h.changes in
        (λ i. slot_line (sym zero i) ∷ (change_lines 0 (none i) ++ []))
    by false e = refl

pub whole_text : (wave : WaveRec) (lines : List (List ℕ)) → IsFrontText wave 0 lines → lines ≡ wave_lines wave
whole_text wave lines h = h.lines_are ∙ ap (declared_lines wave.nodes) (whole_lines wave (front_wave wave h.front))
