-- The line of a slot is read as this slot, and no other line is.
use Rattle.std.proofs.Common.{◌≡◌, ℕ, ◌+◌, ◌%◌, ◌<◌, ◌≤◌, ◌^◌, Bool, true, false, not, nat_le, ◌==◌, List, [], ◌∷◌, length, get_or, Some, refl, sym, ap, ◌∙◌, arith}
use Rattle.std.specs.Prelude.{decimal}
use Rattle.std.specs.List.{list_all}
use Rattle.std.specs.Char.{is_ascii_digit, digit_value}
use Rattle.std.specs.Str.Parse.{AllDigits, digits_value}
use Rattle.std.proofs.lemmas.Bool.{and_parts, and_from, cond-true, cond-false}
use Rattle.std.proofs.lemmas.Bool.Decides.{nat_tests}
use Rattle.std.proofs.lemmas.Str.Parse.{numerals_by_value, tells_digits}
use Rattle.std.proofs.lemmas.Fmt.{decimal_by_steps, decimal_is_IsNumeral, decimal_nonempty, decimal-digits_value, length-decimal-le, first_decimal}
use Rattle.std.proofs.lemmas.List.Folds.{list_all-append}
use Rattle.xs_text.specs.Tokens.{is_run}
use Rattle.xs_text.specs.Numbers.{at_most, value_in}
use Rattle.word_numbers.specs.Decimal.{has_leading_zero, plain_decimal_up_to}
use Rattle.xs_base.specs.Numbers.{Slot}
use Rattle.wave_model.specs.Lines.{slot_line}
use Rattle.wave_model.specs.Reads.{most_wave_slots, slot_in}
use Rattle.wave_laws.proofs.Options.{some_unless, some_where, some_at_most, same_some, no_some}

-- ---- Runs of digits

pub some_bytes : (ds : List ℕ) → 0 < length ds → not (length ds == 0) ≡ true
some_bytes ds h = grind (arith, nat_tests)

pub bytes_some : (ds : List ℕ) → not (length ds == 0) ≡ true → 0 < length ds
bytes_some ds h = grind (arith, nat_tests)

digit_of : (n : ℕ) → n < 10 → is_ascii_digit (48 + n) ≡ true
digit_of n h = grind (arith, nat_tests)

pub all_digits : (n : ℕ) → n < 2 ^ 64 → list_all is_ascii_digit (decimal n) ≡ true
all_digits =
    decimal_by_steps (λ (n : ℕ) (ds : List ℕ). list_all is_ascii_digit ds ≡ true)
    (λ n h. and_from _ _ (digit_of n h) refl)
    (λ n ds h k. list_all-append is_ascii_digit ds ((48 + n % 10) ∷ []) ∙ and_from _ _ k (and_from _ _ (digit_of (n % 10) (omega arith)) refl))

decimal_run : (n : ℕ) → n < 2 ^ 64 → is_run is_ascii_digit (decimal n) ≡ true
decimal_run n h = and_from _ _ (some_bytes (decimal n) (decimal_nonempty n h)) (all_digits n h)

digit_below : (c : ℕ) → is_ascii_digit c ≡ true → digit_value c < 10
digit_below c h = grind (arith, nat_tests)

digits_from : (ds : List ℕ) → list_all is_ascii_digit ds ≡ true → AllDigits 10 ds
digits_from [] h = tt
digits_from (c ∷ cs) h = let p = and_parts (is_ascii_digit c) (list_all is_ascii_digit cs) h in (digit_below c p.0, digits_from cs p.1)

-- ---- Leading zeros

pub no_zero_first : (ds : List ℕ) → 48 < get_or ds 0 0 → has_leading_zero ds ≡ false
no_zero_first [] h = refl
no_zero_first (b ∷ []) h = refl
no_zero_first (b ∷ c ∷ ds) h = grind (arith, nat_tests)

pub zero_alone : (ds : List ℕ) → 0 < length ds → has_leading_zero ds ≡ false → get_or ds 0 0 ≡ 48 → length ds ≡ 1
zero_alone [] some h e = absurd (omega arith)
zero_alone (b ∷ []) some h e = refl
zero_alone (b ∷ c ∷ ds) some h e = absurd (grind (arith, nat_tests))

none_of_zero : has_leading_zero (decimal 0) ≡ false
unfolding Rattle.std.specs.Fmt.digits
none_of_zero = refl

plain_decimal : (n : ℕ) → n < 2 ^ 64 → has_leading_zero (decimal n) ≡ false
plain_decimal n h = by (n == 0) refl
  where
    by : (t : Bool) → (n == 0) ≡ t → has_leading_zero (decimal n) ≡ false
    by true e = let zero : n ≡ 0 = grind (arith, nat_tests) in ap (λ k. has_leading_zero (decimal k)) zero ∙ none_of_zero
    by false e = no_zero_first (decimal n) (first_decimal n (grind (arith, nat_tests)) h)

-- ---- Numbers up to a limit

passes : (n limit : ℕ) → n ≤ limit → nat_le n limit ≡ true
passes n limit h = grind (arith, nat_tests)

pub at_most_back : (limit n : ℕ) → n ≤ limit → at_most limit (Some n) ≡ Some n
at_most_back limit n h = cond-true _ _ _ (passes n limit h)

pub plain_back : (limit n : ℕ) → n ≤ limit → n < 10 ^ 10 → plain_decimal_up_to limit (decimal n) ≡ Some n
plain_back limit n h small =
    let b : n < 2 ^ 64 = omega arith in
    let own : value_in 10 is_ascii_digit (decimal n) ≡ Some n = cond-true _ _ _ (decimal_run n b) ∙ ap (λ v. Some v) (decimal_is_IsNumeral n b).1 in
    cond-false _ _ _ (plain_decimal n b)
    ∙ (cond-true _ _ _ (passes (length (decimal n)) 10 (length-decimal-le 10 n (omega arith) small b)) ∙ (ap (at_most limit) own ∙ at_most_back limit n h))

pub plain_from : (limit n : ℕ) (ds : List ℕ) → limit < 2 ^ 64 → plain_decimal_up_to limit ds ≡ Some n → (ds ≡ decimal n) × (n ≤ limit)
plain_from limit n ds small h =
    let p = some_unless (has_leading_zero ds) _ n h in
    let q = some_where (nat_le (length ds) 10) _ n p.1 in
    let r = some_at_most limit (value_in 10 is_ascii_digit ds) n q.1 in
    let s = some_where (is_run is_ascii_digit ds) _ n r.0 in
    let run = and_parts (not (length ds == 0)) (list_all is_ascii_digit ds) s.0 in
    let value = same_some (digits_value 10 ds) n s.1 in
    let some = bytes_some ds run.0 in
    (sym (decimal-digits_value (numerals_by_value _ tells_digits) ds (digits_from ds run.1) some (zero_alone ds some p.0) (omega (arith, value, r.1))) ∙ ap decimal value, r.1)

-- ---- The lines of slots

pub slot_back : (slot : Slot) → slot ≤ most_wave_slots → slot_in (slot_line slot) ≡ Some slot
slot_back slot h = plain_back most_wave_slots slot h (omega arith)

pub slot_from : (line : List ℕ) (slot : Slot) → slot_in line ≡ Some slot → (line ≡ slot_line slot) × (slot ≤ most_wave_slots)
slot_from [] slot h = no_some slot h
slot_from (b ∷ digits) slot h =
    let p = some_where (b == 35) _ slot h in
    let first : b ≡ 35 = grind (arith, nat_tests) in
    let q = plain_from most_wave_slots slot digits (omega arith) p.1 in
    (cc (first, q.0), q.1)
