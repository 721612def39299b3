-- The line of a change is read as this change, and no other line is.
use Rattle.std.proofs.Common.{◌≡◌, ℕ, ◌+◌, ◌-◌, ◌*◌, ◌/◌, ◌%◌, ◌<◌, ◌^◌, true, List, ◌++◌, length, take, drop, Option, Some, None, sym, ap, ◌∙◌}
use Rattle.std.proofs.Common.{length-append, take-append-drop, take_at, drop_at, arith}
use Rattle.xs_base.specs.Ids.{port_width}
use Rattle.xs_base.specs.Numbers.{Word}
use Rattle.pin_scripts.specs.Pins.{◌>>=◌}
use Rattle.wave_model.specs.declared.change.WaveChange.{WaveChange}
use Rattle.wave_model.specs.Lines.{PinNumber, code_of, value_text, change_line}
use Rattle.wave_model.specs.Waves.{WaveRec}
use Rattle.wave_model.specs.Reads.{Reading, Changes, when, slot_in, pin_of_code, value_in_text, may_change, changed, after_change}
use Rattle.wave_model.specs.Form.{pin_of_change}
use Rattle.wave_laws.proofs.Options.{some_after, some_when}
use Rattle.wave_laws.proofs.Codes.{code_back, code_from}
use Rattle.wave_laws.proofs.Values.{value_back, value_from, is_width, value_no_slot}

-- what is done with a value that is there
bind : {A B : Type 0} (o : Option A) (x : A) (f : A → Option B) → o ≡ Some x → (o >>= f) ≡ f x
bind o x f e = ap (λ t. t >>= f) e

-- the pin and the value of a change
pub port_back : (change : WaveChange) → change.port < 29 → (pin_of_change change % 29 ≡ change.port) × (pin_of_change change / 29 ≡ change.node)
port_back change h = (omega arith, omega arith)

pub change_no_slot : (change : WaveChange) → change.value < 2 ^ port_width change.port → slot_in (change_line change) ≡ None
change_no_slot change v = value_no_slot (port_width change.port) change.value _ (is_width change.port) v

code_split : (text : List ℕ) (pin : PinNumber)
    → (drop (length (text ++ code_of pin) - 2) (text ++ code_of pin) ≡ code_of pin) × (take (length (text ++ code_of pin) - 2) (text ++ code_of pin) ≡ text)
code_split text pin =
    let e : length text ≡ length (text ++ code_of pin) - 2 = omega (arith, length-append text (code_of pin)) in
    (drop_at text (code_of pin) (length (text ++ code_of pin) - 2) e, take_at text (code_of pin) (length (text ++ code_of pin) - 2) e)

-- what is done with the pin and the value of a line
abbrev pub with_value : WaveRec → PinNumber → PinNumber → Word → Option Reading
with_value wave next pin value = when (may_change wave next pin) (Changes (changed wave pin value) (pin + 1))

abbrev with_pin : WaveRec → PinNumber → List ℕ → PinNumber → Option Reading
with_pin wave next line pin = value_in_text (port_width (pin % 29)) (take (length line - 2) line) >>= with_value wave next pin

pub change_back : (wave : WaveRec) (next : PinNumber) (change : WaveChange) → change.port < 29 → change.value < 2 ^ port_width change.port
    → after_change wave next (change_line change) ≡ with_value wave next (pin_of_change change) change.value
change_back wave next change p v =
    let line = change_line change in
    let pin : PinNumber = pin_of_change change in
    let text = value_text (port_width change.port) change.value in
    let split = code_split text pin in
    let read : value_in_text (port_width (pin % 29)) (take (length line - 2) line) ≡ Some change.value =
    (λ i. value_in_text (port_width ((port_back change p).0 i)) (split.1 i)) ∙ value_back (port_width change.port) change.value (is_width change.port) v
    in
    bind (pin_of_code (drop (length line - 2) line)) pin (with_pin wave next line) (ap pin_of_code split.0 ∙ code_back pin)
    ∙ bind (value_in_text (port_width (pin % 29)) (take (length line - 2) line)) change.value (with_value wave next pin) read

-- a change of this pin to this value in the last slot
abbrev pub change_at : WaveRec → PinNumber → Word → WaveChange
change_at wave pin value = record { slot = wave.last; node = pin / 29; port = pin % 29; value = value }

pub record IsChangeLine (wave : WaveRec) (next : PinNumber) (line : List ℕ) (after : Reading) : Type 0 where
  pub pin : PinNumber
  pub value : Word
  pub line_is : line ≡ change_line (change_at wave pin value)
  pub fits : value < 2 ^ port_width (pin % 29)
  pub may : may_change wave next pin ≡ true
  pub after_is : Changes (changed wave pin value) (pin + 1) ≡ after

pub change_from : (wave : WaveRec) (next : PinNumber) (line : List ℕ) (after : Reading) → after_change wave next line ≡ Some after → IsChangeLine wave next line after
change_from wave next line after h =
    let k : ℕ = length line - 2 in
    let p = some_after (pin_of_code (drop k line)) (with_pin wave next line) after h in
    let q = some_after (value_in_text (port_width (p.0 % 29)) (take k line)) (with_value wave next p.0) after p.2 in
    let r = some_when (may_change wave next p.0) (Changes (changed wave p.0 q.0) (p.0 + 1)) after q.2 in
    let text = value_from (port_width (p.0 % 29)) q.0 (take k line) (is_width (p.0 % 29)) q.1 in
    let code = code_from (drop k line) p.0 p.1 in
    let same : p.0 ≡ 29 * (p.0 / 29) + p.0 % 29 = omega arith in
    record {
      pin = p.0;
      value = q.0;
      line_is = sym (take-append-drop k line) ∙ (λ i. text.0 i ++ (code ∙ ap code_of same) i);
      fits = text.1;
      may = r.0;
      after_is = r.1;
    }
