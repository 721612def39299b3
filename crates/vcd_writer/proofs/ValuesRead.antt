-- Values in binary.
use Rattle.std.proofs.Common.{◌≡◌, ℕ, zero, suc, ◌+◌, ◌-◌, ◌*◌, ◌^◌, ◌<◌, ◌≤◌, Bool, true, false, Some, None, List, [], ◌∷◌, length, take, get_or}
use Rattle.std.proofs.Common.{refl, sym, subst, ap, ◌∙◌, inl, inr, arith}
use Rattle.std.proofs.Math.Nat.{mul-le-mul_right, one-le-pow, pow-le-pow_right}
use Rattle.std.specs.Prelude.{nat_le, if◌then◌else◌}
use Rattle.std.proofs.lemmas.Bool.{and_parts, or_cases, eqb-true, eqb-false, lt-leb, cases_Bool, and_right, cond-true, cond-false}
use Rattle.std.proofs.lemmas.Grind.{pow_more}
use Rattle.std.proofs.lemmas.Int.Digits.{digits_value_more}
use Rattle.std.specs.Char.{digit_value}
use Rattle.std.specs.List.{list_all}
use Rattle.std.specs.Str.Parse.{digits_value, digits_value_after}
use Rattle.xs_text.specs.Numbers.{at_most, value_in}
use Rattle.xs_text.specs.Tokens.{is_binary_digit, is_run}
use Rattle.word_numbers.specs.Decimal.{has_leading_zero}
use Rattle.wave_model.specs.Reads.{binary_in}

-- what a binary digit is, and its value
pub record IsDigit (b : ℕ) : Type 0 where
  pub low : 48 ≤ b
  pub high : b ≤ 49
  pub value : digit_value b ≡ b - 48

one-digit : (b : ℕ) → is_binary_digit b ≡ true → IsDigit b
one-digit b is =
    elim (or_cases _ _ is) [
      | inl zero-is ↦ let e : b ≡ 48 = eqb-true b 48 zero-is in rw e (record { low = omega arith; high = omega arith; value = refl })
      | inr one-is ↦ let e : b ≡ 49 = eqb-true b 49 one-is in rw e (record { low = omega arith; high = omega arith; value = refl })
    ]

pub digit-at : (digits : List ℕ) (i : ℕ) → list_all is_binary_digit digits ≡ true → i < length digits → IsDigit (get_or digits i 0)
digit-at [] i all h = absurd (omega (arith, h))
digit-at (b ∷ rest) zero all h = one-digit b (and_parts _ _ all).0
digit-at (b ∷ rest) (suc i) all h = digit-at rest i (and_parts _ _ all).1 (omega (arith, h))

-- the value of one digit more
pub value-more : (digits : List ℕ) (i value : ℕ) → list_all is_binary_digit digits ≡ true → i < length digits → value ≡ digits_value 2 (take i digits)
    → 2 * value + (get_or digits i 0 - 48) ≡ digits_value 2 (take (i + 1) digits)
value-more digits i value all h is =
    let more = digits_value_more 2 digits i h in
    let digit = (digit-at digits i all h).value in
    omega (arith, is, more, digit)

-- more than 32 digits without a leading zero are a greater value than any of 32 bits
grows : (n : ℕ) (digits : List ℕ) → n * 2 ^ length digits ≤ digits_value_after 2 n digits
grows n [] = omega arith
grows n (b ∷ rest) =
    let later = grows (n * 2 + digit_value b) rest in
    let more = mul-le-mul_right (2 ^ length rest) (let le : n * 2 ≤ n * 2 + digit_value b = omega arith in le) in
    let twice : 2 ^ length (b ∷ rest) ≡ 2 ^ length rest * 2 = (let one : length (b ∷ rest) ≡ length rest + 1 = omega arith in rw one (pow_more 2 (length rest))) in
    rw twice (omega (arith, later, more))

too-great : (limit : ℕ) (digits : List ℕ) → limit < digits_value 2 digits → at_most limit (value_in 2 is_binary_digit digits) ≡ None
too-great limit digits past =
    elim (cases_Bool (is_run is_binary_digit digits)) [
      | inl run ↦ rw run (let not : nat_le (digits_value 2 digits) limit ≡ false = lt-leb _ _ past in rw not refl)
      | inr none ↦ rw none refl
    ]

long-value : (digits : List ℕ) (width : ℕ) → width ≤ 32 → 32 < length digits → has_leading_zero digits ≡ false → list_all is_binary_digit digits ≡ true
    → 2 ^ width - 1 < digits_value 2 digits
long-value [] width few long plain all = absurd (omega (arith, long))
long-value (b ∷ []) width few long plain all = absurd (omega (arith, long))
long-value (b ∷ c ∷ rest) width few long plain all =
    let digit = one-digit b (and_parts _ _ all).0 in
    let not-zero : b ≡ 48 → ⊥ = eqb-false b 48 plain in
    let one : digit_value b ≡ 1 = (let d = digit.value in let l = digit.low in let h = digit.high in omega (arith, d, l, h, not-zero)) in
    let least = grows 1 (c ∷ rest) in
    let first : 0 * 2 + digit_value b ≡ 1 = omega (arith, one) in
    let from : digits_value 2 (b ∷ c ∷ rest) ≡ digits_value_after 2 1 (c ∷ rest) = ap (λ n. digits_value_after 2 n (c ∷ rest)) first in
    let room : 2 ^ width ≤ 2 ^ length (c ∷ rest) = pow-le-pow_right (omega arith) (omega (arith, few, long)) in
    let some : 1 ≤ 2 ^ width = one-le-pow width 2 (omega arith) in
    let most : 2 ^ width - 1 < digits_value_after 2 1 (c ∷ rest) = omega (arith, least, room, some) in
    subst (λ n. 2 ^ width - 1 < n) (sym from) most

-- ---- What is no value of so many bits

pub leading : (width : ℕ) (digits : List ℕ) → has_leading_zero digits ≡ true → binary_in width digits ≡ None
leading width digits is = cond-true _ _ _ is

pub not-digits : (width : ℕ) (digits : List ℕ) → is_run is_binary_digit digits ≡ false → binary_in width digits ≡ None
not-digits width digits none =
    elim (cases_Bool (has_leading_zero digits)) [
      | inl zero-first ↦ leading width digits zero-first
      | inr plain ↦ cond-false _ _ _ plain ∙ ap (λ (b : Bool). at_most (2 ^ width - 1) (if b then Some (digits_value 2 digits) else None)) none
    ]

pub too-long : (width : ℕ) (digits : List ℕ) → width ≤ 32 → 32 < length digits → binary_in width digits ≡ None
too-long width digits few long =
    elim (cases_Bool (has_leading_zero digits)) [
      | inl zero-first ↦ leading width digits zero-first
      | inr plain ↦ elim (cases_Bool (list_all is_binary_digit digits)) [
        | inl all ↦ cond-false _ _ _ plain ∙ too-great (2 ^ width - 1) digits (long-value digits width few long plain all)
        | inr none ↦ not-digits width digits (and_right _ _ none)
      ]
    ]
