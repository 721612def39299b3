-- The line of a change, by its parts.
use Rattle.std.proofs.Common.{◌≡◌, ℕ, ◌+◌, ◌-◌, ◌%◌, Bool, true, Option, Some, List, length, take, drop, ap, ◌∙◌}
use Rattle.xs_base.specs.Ids.{port_width}
use Rattle.pin_scripts.specs.Pins.{◌>>=◌}
use Rattle.wave_model.specs.Waves.{WaveRec}
use Rattle.wave_model.specs.Reads.{Reading, Changes, after_change, changed, may_change, pin_of_code, value_in_text, when}

pub change-read : (wave : WaveRec) (next : ℕ) (line : List ℕ) (pin value : ℕ) → pin_of_code (drop (length line - 2) line) ≡ Some pin
    → value_in_text (port_width (pin % 29)) (take (length line - 2) line) ≡ Some value → may_change wave next pin ≡ true
    → after_change wave next line ≡ Some (Changes (changed wave pin value) (pin + 1))
change-read wave next line pin value code text may =
    let with-value : ℕ → ℕ → Option Reading = λ p v. when (may_change wave next p) (Changes (changed wave p v) (p + 1)) in
    let with-pin : ℕ → Option Reading = λ p. value_in_text (port_width (p % 29)) (take (length line - 2) line) >>= with-value p in
    ap (λ (o : Option ℕ). o >>= with-pin) code
    ∙ ap (λ (o : Option ℕ). o >>= with-value pin) text
    ∙ ap (λ (b : Bool). when b (Changes (changed wave pin value) (pin + 1))) may
