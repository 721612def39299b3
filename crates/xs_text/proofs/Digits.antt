-- The value of digits, where it stops at a number that it is past.
use Rattle.std.proofs.Common.{◌≡◌, ℕ, ◌+◌, ◌*◌, ◌<◌, ◌≤◌, min, List, take, length, get_or, sym, ap, ◌∙◌, arith, refl, subst, inl, inr}
use Rattle.std.proofs.Math.Nat.{mul-le-mul_right, le-mul_of_pos_right}
use Rattle.std.proofs.lemmas.Bool.{cases_lt}
use Rattle.std.proofs.lemmas.Int.Digits.{digits_value_more}
use Rattle.std.specs.Str.Parse.{digits_value}
use Rattle.std.specs.Char.{digit_value}

stops : (v past base digit : ℕ) → 1 ≤ base → min (min v past * base + digit) past ≡ min (v * base + digit) past
stops v past base digit h =
    let low : past ≤ past * base = le-mul_of_pos_right past h in
    let mono : min v past * base ≤ v * base = mul-le-mul_right base (omega arith) in
    elim (cases_lt v past) [
      | inl k ↦ let same : min v past ≡ v = omega arith in rw same refl
      | inr k ↦ let over : min v past ≡ past = omega arith in rw over (omega (arith, low, subst (λ (m : ℕ). m * base ≤ v * base) over mono))
    ]

pub digits_value-stops : (digits : List ℕ) (i past base value : ℕ) → 1 ≤ base → i < length digits → value ≡ min (digits_value base (take i digits)) past → min (value * base + digit_value (get_or digits i 0)) past ≡ min (digits_value base (take (i + 1) digits)) past
digits_value-stops digits i past base value h k e =
    ap (λ v. min (v * base + digit_value (get_or digits i 0)) past) e
    ∙ (stops _ past base _ h ∙ ap (λ v. min v past) (sym (digits_value_more base digits i k)))

pub ruleset digits_steps = (digits_value-stops)
