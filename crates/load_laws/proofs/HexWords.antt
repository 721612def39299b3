-- A word in hex is one number, and is read as this word.
use Rattle.std.proofs.Common.{◌≡◌, ℕ, ◌+◌, ◌*◌, ◌/◌, ◌%◌, ◌<◌, Bool, true, List, [], ◌∷◌, ◌++◌, length, refl, ap, sym, ◌∙◌, arith}
use Rattle.std.specs.Prelude.{Option, Some}
use Rattle.std.specs.List.{list_all, prefix_len}
use Rattle.std.specs.Char.{is_ascii_alphanumeric, is_ascii_hexdigit, digit_value}
use Rattle.std.specs.Str.Parse.{digits_value}
use Rattle.std.proofs.lemmas.Bool.{and_parts, and_from, cond-true, cond-false, or_left, not-true}
use Rattle.std.proofs.lemmas.Bool.Decides.{nat_tests}
use Rattle.std.proofs.lemmas.Str.{digit_value-digit_char}
use Rattle.xs_text.specs.Bytes.{is_allowed, all_allowed}
use Rattle.xs_text.specs.Tokens.{Token, tokens_of, token_of, kind_of}
use Rattle.xs_text.specs.Numbers.{source_number_of, number_of, or_else}
use Rattle.xs_text.specs.declared.token_reader.TokKind.{TokKind}
use Rattle.xs_text.specs.declared.token_reader.TokKind.TheVariants.{Number}
use Rattle.xs_text.proofs.FirstToken.{tokens_of-token}
use Rattle.trace_model.specs.EventLines.{hex_digit, hex_digit_at, hex_word}
use Rattle.source_laws.proofs.TokenText.{stops}

-- ---- Digits

-- a text may hold a digit
hex_allowed : (d : ℕ) → d < 16 → is_allowed (hex_digit d) ≡ true
hex_allowed d h = grind (arith, nat_tests)

-- a number goes on with it
hex_goes_on : (d : ℕ) → d < 16 → is_ascii_alphanumeric (hex_digit d) ≡ true
hex_goes_on d h = grind (arith, nat_tests)

-- it is a digit in hex
hex_passes : (d : ℕ) → d < 16 → is_ascii_hexdigit (hex_digit d) ≡ true
hex_passes d h = grind (arith, nat_tests)

-- it stands for its number
hex_value : (d : ℕ) → d < 16 → digit_value (hex_digit d) ≡ d
hex_value d h = digit_value-digit_char d (omega arith)

-- the digits behind 0x
abbrev pub hex_digits : ℕ → List ℕ
hex_digits w =
    hex_digit_at 0x10000000 w ∷ hex_digit_at 0x1000000 w ∷ hex_digit_at 0x100000 w ∷ hex_digit_at 0x10000 w
    ∷ hex_digit_at 0x1000 w ∷ hex_digit_at 0x100 w ∷ hex_digit_at 0x10 w ∷ hex_digit_at 1 w ∷ []

-- what each digit passes, all of them pass
all_digits : (passes : ℕ → Bool) → ((d : ℕ) → d < 16 → passes (hex_digit d) ≡ true) → (w : ℕ) → list_all passes (hex_digits w) ≡ true
all_digits passes own w =
    let one : (unit : ℕ) → passes (hex_digit_at unit w) ≡ true = λ unit. own (w / unit % 16) (omega arith) in
    and_from _ _ (one _) (and_from _ _ (one _) (and_from _ _ (one _) (and_from _ _ (one _)
    (and_from _ _ (one _) (and_from _ _ (one _) (and_from _ _ (one _) (and_from _ _ (one _) refl)))))))

-- ---- The bytes

-- a text may hold all of a word
pub word_allowed : (w : ℕ) → all_allowed (hex_word w) ≡ true
unfolding hex_word
word_allowed w = all_digits is_allowed hex_allowed w

-- ---- The token

-- bytes that pass are counted, up to one that does not
prefix_len-whole : (passes : ℕ → Bool) (word rest : List ℕ) → list_all passes word ≡ true → stops passes rest ≡ true → prefix_len passes (word ++ rest) ≡ length word
prefix_len-whole passes [] [] h k = refl
prefix_len-whole passes [] (b ∷ rest) h k = cond-false _ _ _ (not-true (passes b) k)
prefix_len-whole passes (b ∷ word) rest h k =
    let p = and_parts (passes b) (list_all passes word) h in
    let e = prefix_len-whole passes word rest p.1 k in
    cond-true _ _ _ p.0 ∙ (omega (arith, e))

-- how far the number goes past its first byte
word_goes_on : (w : ℕ) (rest : List ℕ) → stops is_ascii_alphanumeric rest ≡ true → prefix_len is_ascii_alphanumeric ((120 ∷ hex_digits w) ++ rest) ≡ 9
word_goes_on w rest k = prefix_len-whole is_ascii_alphanumeric (120 ∷ hex_digits w) rest (all_digits is_ascii_alphanumeric hex_goes_on w) k

-- a word as a whole is a number
word_kind : (w : ℕ) → kind_of (hex_word w) ≡ Number
unfolding hex_word
word_kind w = cond-true _ _ _ (or_left _ _ (all_digits is_ascii_hexdigit hex_passes w))

-- the token that a word makes
word_token_of : (w : ℕ) (rest : List ℕ) → stops is_ascii_alphanumeric rest ≡ true → tokens_of (hex_word w ++ rest) ≡ token_of (hex_word w) ∷ tokens_of rest
unfolding hex_word
word_token_of w rest k =
    let e = word_goes_on w rest k in
    tokens_of-token (hex_word w ++ rest) 10 (omega arith) refl refl (ap (λ n. 1 + n) (sym e))

-- the token of a number
abbrev pub number_token : List ℕ → Token
number_token bytes = record { kind = Number; bytes = bytes }

-- a word, where no letter or digit follows, is one number
pub word_first : (w : ℕ) (rest : List ℕ) → stops is_ascii_alphanumeric rest ≡ true → tokens_of (hex_word w ++ rest) ≡ number_token (hex_word w) ∷ tokens_of rest
word_first w rest k =
    word_token_of w rest k ∙ ap (λ (kind : TokKind). record { kind = kind; bytes = hex_word w } ∷ tokens_of rest) (word_kind w)

-- ---- The number

-- the digit at a unit, behind n
one_digit : (w unit n more : ℕ) → n * 16 + w / unit % 16 ≡ more → n * 16 + digit_value (hex_digit_at unit w) ≡ more
one_digit w unit n more e = ap (λ d. n * 16 + d) (hex_value (w / unit % 16) (omega arith)) ∙ e

-- digit by digit: what the first of them stand for is the word by their last unit
digits_back : (w : ℕ) → w < 4294967296 → digits_value 16 (hex_digits w) ≡ w
digits_back w h =
    let a = one_digit w 0x10000000 0 (w / 0x10000000) (omega arith) in
    let b = one_digit w 0x1000000 (w / 0x10000000) (w / 0x1000000) (omega arith) in
    let c = one_digit w 0x100000 (w / 0x1000000) (w / 0x100000) (omega arith) in
    let d = one_digit w 0x10000 (w / 0x100000) (w / 0x10000) (omega arith) in
    let e = one_digit w 0x1000 (w / 0x10000) (w / 0x1000) (omega arith) in
    let f = one_digit w 0x100 (w / 0x1000) (w / 0x100) (omega arith) in
    let g = one_digit w 0x10 (w / 0x100) (w / 0x10) (omega arith) in
    rw (a, b, c, d, e, f, g) (one_digit w 1 (w / 0x10) w (omega arith))

-- the number that a word is in system texts
pub word_number : (w : ℕ) → w < 4294967296 → number_of (hex_word w) ≡ Some w
unfolding hex_word
word_number w h = cond-true _ _ _ (all_digits is_ascii_hexdigit hex_passes w) ∙ ap (λ n. Some n) (digits_back w h)

-- the first that there is
or_first : (n : ℕ) (o p : Option ℕ) → o ≡ Some n → or_else o p ≡ Some n
or_first n o p e = ap (λ x. or_else x p) e

-- and in sources
pub word_back : (w : ℕ) → w < 4294967296 → source_number_of (hex_word w) ≡ Some w
word_back w h = or_first w (number_of (hex_word w)) _ (word_number w h)
