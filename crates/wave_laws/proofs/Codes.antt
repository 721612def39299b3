-- The code of a pin is read as this pin, and no other bytes are.
use Rattle.std.proofs.Common.{◌≡◌, ℕ, ◌+◌, ◌-◌, ◌*◌, ◌/◌, ◌%◌, ◌<◌, ◌≤◌, true, nat_le, nat_lt, ◌&&◌, List, [], ◌∷◌, Some, ap, ◌∙◌, arith}
use Rattle.std.proofs.lemmas.Bool.{cond-true}
use Rattle.std.proofs.lemmas.Bool.Decides.{nat_tests}
use Rattle.wave_model.specs.Lines.{PinNumber, code_of}
use Rattle.wave_model.specs.Reads.{pin_of_code}
use Rattle.wave_laws.proofs.Options.{some_where, same_some, no_some}

code_bytes : (pin : ℕ) → (nat_le 33 (33 + pin / 90) && (nat_le 33 (33 + pin % 90) && nat_lt (33 + pin % 90) 123)) ≡ true
code_bytes pin = grind (arith, nat_tests)

pub code_back : (pin : PinNumber) → pin_of_code (code_of pin) ≡ Some pin
code_back pin = cond-true _ _ _ (code_bytes pin) ∙ ap Some (omega arith)

code_parts : (high low : ℕ) → (nat_le 33 high && (nat_le 33 low && nat_lt low 123)) ≡ true
    → (33 + (90 * (high - 33) + (low - 33)) / 90 ≡ high) × (33 + (90 * (high - 33) + (low - 33)) % 90 ≡ low)
code_parts high low h =
    let a : 33 ≤ high = grind (arith, nat_tests) in
    let b : 33 ≤ low = grind (arith, nat_tests) in
    let c : low < 123 = grind (arith, nat_tests) in
    (omega arith, omega arith)

pub code_from : (code : List ℕ) (pin : PinNumber) → pin_of_code code ≡ Some pin → code ≡ code_of pin
code_from [] pin h = no_some pin h
code_from (high ∷ []) pin h = no_some pin h
code_from (high ∷ low ∷ []) pin h =
    let p = some_where _ _ pin h in
    let same = same_some _ pin p.1 in
    let parts = code_parts high low p.0 in
    cc (same, parts.0, parts.1)
code_from (high ∷ low ∷ more ∷ rest) pin h = no_some pin h
