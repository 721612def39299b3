-- A number in decimal is read as this number.
use Rattle.std.proofs.Common.{◌≡◌, ℕ, ◌+◌, ◌%◌, ◌<◌, ◌^◌, true, false, ◌&&◌, not, ◌==◌, List, [], ◌∷◌, length, refl, ap, ◌∙◌, arith}
use Rattle.std.specs.Prelude.{decimal, Option, Some}
use Rattle.std.specs.List.{list_all}
use Rattle.std.specs.Char.{is_ascii_digit}
use Rattle.std.proofs.lemmas.Bool.{and_parts, and_from, cond-true, cond-false, or_left}
use Rattle.std.proofs.lemmas.Bool.Decides.{nat_tests}
use Rattle.std.proofs.lemmas.Fmt.{decimal_by_steps, decimal_is_IsNumeral, decimal_nonempty}
use Rattle.std.proofs.lemmas.List.Folds.{list_all-append}
use Rattle.xs_text.specs.Bytes.{is_allowed, all_allowed, is_name_start, is_name_byte}
use Rattle.xs_text.specs.Tokens.{kind_of, is_name, is_run}
use Rattle.xs_text.specs.Numbers.{source_number_of, number_of, value_in, or_else}
use Rattle.xs_text.specs.declared.token_reader.TokKind.TheVariants.{Number}

digit_of : (n : ℕ) → n < 10 → is_ascii_digit (48 + n) ≡ true
digit_of n h = grind (arith, nat_tests)

all_digits : (n : ℕ) → n < 2 ^ 64 → list_all is_ascii_digit (decimal n) ≡ true
all_digits =
    decimal_by_steps (λ (n : ℕ) (ds : List ℕ). list_all is_ascii_digit ds ≡ true)
    (λ n h. and_from _ _ (digit_of n h) refl)
    (λ n ds h k. list_all-append is_ascii_digit ds ((48 + n % 10) ∷ []) ∙ and_from _ _ k (and_from _ _ (digit_of (n % 10) (omega arith)) refl))

some_bytes : (ds : List ℕ) → 0 < length ds → not (length ds == 0) ≡ true
some_bytes ds h = grind (arith, nat_tests)

pub decimal_run : (n : ℕ) → n < 2 ^ 64 → is_run is_ascii_digit (decimal n) ≡ true
decimal_run n h = and_from _ _ (some_bytes (decimal n) (decimal_nonempty n h)) (all_digits n h)

or_first : (n : ℕ) (o p : Option ℕ) → o ≡ Some n → or_else o p ≡ Some n
or_first n o p e = ap (λ x. or_else x p) e

pub number_back : (n : ℕ) → n < 2 ^ 64 → source_number_of (decimal n) ≡ Some n
number_back n h =
    let own : value_in 10 is_ascii_digit (decimal n) ≡ Some n = cond-true _ _ _ (decimal_run n h) ∙ ap (λ v. Some v) (decimal_is_IsNumeral n h).1 in
    or_first n (number_of (decimal n)) _ (or_first n (value_in 10 is_ascii_digit (decimal n)) _ own)

digit_no_start : (b : ℕ) → is_ascii_digit b ≡ true → is_name_start b ≡ false
digit_no_start b h = grind (arith, nat_tests)

run_no_name : (ds : List ℕ) → is_run is_ascii_digit ds ≡ true → is_name ds ≡ false
run_no_name [] h = refl
run_no_name (b ∷ ds) h =
    let all = and_parts (not (length (b ∷ ds) == 0)) (list_all is_ascii_digit (b ∷ ds)) h in
    let p = and_parts (is_ascii_digit b) (list_all is_ascii_digit ds) all.1 in
    ap (λ t. t && list_all is_name_byte ds) (digit_no_start b p.0)

pub run_is_number : (ds : List ℕ) → is_run is_ascii_digit ds ≡ true → kind_of ds ≡ Number
run_is_number ds h = cond-false _ _ _ (run_no_name ds h) ∙ cond-true _ _ _ (or_left _ _ h)

digit_allowed : (b : ℕ) → is_ascii_digit b ≡ true → is_allowed b ≡ true
digit_allowed b h = grind (arith, nat_tests)

digits_allowed : (ds : List ℕ) → list_all is_ascii_digit ds ≡ true → all_allowed ds ≡ true
digits_allowed [] h = refl
digits_allowed (b ∷ ds) h =
    let p = and_parts (is_ascii_digit b) (list_all is_ascii_digit ds) h in
    and_from _ _ (digit_allowed b p.0) (digits_allowed ds p.1)

pub decimal_allowed : (n : ℕ) → n < 2 ^ 64 → all_allowed (decimal n) ≡ true
decimal_allowed n h = digits_allowed (decimal n) (all_digits n h)
