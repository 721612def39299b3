-- Numbers below a hundred in decimal, as words of a line, and as parts of the names of link ends.
use Rattle.std.proofs.Common.{◌≡◌, ℕ, ◌+◌, ◌<◌, ◌≤◌, ◌^◌, true, not, ◌==◌, List, [], ◌∷◌, ◌++◌, length, take, drop, refl, sym, ap, ◌∙◌, append_assoc, length-append, arith}
use Rattle.std.specs.Prelude.{decimal, Option, Some}
use Rattle.std.specs.List.{list_all}
use Rattle.std.specs.Char.{is_ascii_digit}
use Rattle.std.proofs.lemmas.Bool.{and_parts, and_from, cond-true}
use Rattle.std.proofs.lemmas.Bool.Decides.{nat_tests}
use Rattle.std.proofs.lemmas.Fmt.{decimal_is_IsNumeral, length-decimal-le}
use Rattle.std.proofs.lemmas.List.{take_at, drop_at}
use Rattle.std.proofs.lemmas.List.Folds.{list_all-append}
use Rattle.xs_text.specs.Bytes.{all_allowed}
use Rattle.xs_text.specs.Tokens.{is_run}
use Rattle.xs_text.specs.Numbers.{number_of, value_in, or_else}
use Rattle.source_laws.proofs.Digits.{decimal_run, decimal_allowed}
use Rattle.system_model.specs.FrameLines.{◌>>=◌, end_name, before_colon}
use Rattle.load_laws.proofs.PlainWords.{is_plain, is_plain_word}

-- the first of two ways to read a number
or_first : (n : ℕ) (o p : Option ℕ) → o ≡ Some n → or_else o p ≡ Some n
or_first n o p e = ap (λ x. or_else x p) e

-- a number in decimal is read as this number
pub number_back : (n : ℕ) → n < 2 ^ 64 → number_of (decimal n) ≡ Some n
number_back n h =
    let own : value_in 10 is_ascii_digit (decimal n) ≡ Some n = cond-true _ _ _ (decimal_run n h) ∙ ap (λ v. Some v) (decimal_is_IsNumeral n h).1 in
    or_first n (value_in 10 is_ascii_digit (decimal n)) _ own

-- a digit is plain
digit_plain : (b : ℕ) → is_ascii_digit b ≡ true → is_plain b ≡ true
digit_plain b h = grind (arith, nat_tests)

-- digits are plain
digits_plain : (ds : List ℕ) → list_all is_ascii_digit ds ≡ true → list_all is_plain ds ≡ true
digits_plain [] h = refl
digits_plain (b ∷ ds) h =
    let p = and_parts (is_ascii_digit b) (list_all is_ascii_digit ds) h in
    and_from _ _ (digit_plain b p.0) (digits_plain ds p.1)

-- digits are a plain word
pub run_plain : (ds : List ℕ) → is_run is_ascii_digit ds ≡ true → is_plain_word ds ≡ true
run_plain [] h = absurd (cc)
run_plain (b ∷ ds) h = digits_plain (b ∷ ds) ((and_parts (not (length (b ∷ ds) == 0)) _ h).1)

-- what the digits of a number are
pub record IsNumberWord (n : ℕ) (word : List ℕ) : Type 0 where
  pub run : is_run is_ascii_digit word ≡ true
  pub plain : is_plain_word word ≡ true
  pub allowed : all_allowed word ≡ true
  pub read : number_of word ≡ Some n
  pub short : length word ≤ 2

-- a number below a hundred in decimal
pub number_word : (n : ℕ) → n < 100 → IsNumberWord n (decimal n)
number_word n h =
    let b : n < 2 ^ 64 = omega arith in
    record {
      run = decimal_run n b;
      plain = run_plain (decimal n) (decimal_run n b);
      allowed = decimal_allowed n b;
      read = number_back n b;
      short = length-decimal-le 2 n (omega arith) h b;
    }

-- ---- The names of link ends

-- plain bytes and more of them are a plain word
pub plain_append : (word more : List ℕ) → is_plain_word word ≡ true → list_all is_plain more ≡ true → is_plain_word (word ++ more) ≡ true
plain_append [] more h k = absurd (cc)
plain_append (b ∷ word) more h k = list_all-append is_plain (b ∷ word) more ∙ and_from _ _ h k

-- a digit is no colon
digit_no_colon : (b : ℕ) → is_ascii_digit b ≡ true → not (b == 58) ≡ true
digit_no_colon b h = grind (arith, nat_tests)

-- digits stand before the colon that follows them
digits_before_colon : (ds rest : List ℕ) → list_all is_ascii_digit ds ≡ true → before_colon (ds ++ (58 ∷ rest)) ≡ length ds
digits_before_colon [] rest h = refl
digits_before_colon (b ∷ ds) rest h =
    let p = and_parts (is_ascii_digit b) (list_all is_ascii_digit ds) h in
    let e = digits_before_colon ds rest p.1 in
    cond-true _ _ _ (digit_no_colon b p.0) ∙ (omega (arith, e))

-- what is done with a value that is there
pub bind : {A B : Type 0} (o : Option A) (x : A) (f : A → Option B) → o ≡ Some x → (o >>= f) ≡ f x
bind o x f e = ap (λ t. t >>= f) e

-- what stands before the colon
pub before : (word rest : List ℕ) → list_all is_ascii_digit word ≡ true → take (before_colon (word ++ (58 ∷ rest))) (word ++ (58 ∷ rest)) ≡ word
before word rest h =
    ap (λ k. take k (word ++ (58 ∷ rest))) (digits_before_colon word rest h) ∙ take_at word (58 ∷ rest) (length word) refl

-- what stands after the colon
pub after : (word rest : List ℕ) → list_all is_ascii_digit word ≡ true → drop (before_colon (word ++ (58 ∷ rest)) + 1) (word ++ (58 ∷ rest)) ≡ rest
after word rest h =
    let e = digits_before_colon word rest h in
    let k : length (word ++ (58 ∷ [])) ≡ before_colon (word ++ (58 ∷ rest)) + 1 = omega (arith, e, length-append word (58 ∷ [])) in
    ap (λ t. drop (before_colon (word ++ (58 ∷ rest)) + 1) t) (sym (append_assoc word (58 ∷ []) rest))
    ∙ drop_at (word ++ (58 ∷ [])) rest (before_colon (word ++ (58 ∷ rest)) + 1) k

-- what the name of a link end is
pub record IsEndWord (node end : ℕ) (word : List ℕ) : Type 0 where
  pub plain : is_plain_word word ≡ true
  pub read : end_name word ≡ Some (record { node = node; end = end })

-- digits, a colon and a number are read as a link end
end_read : (node end : ℕ) (word rest : List ℕ) → list_all is_ascii_digit word ≡ true → number_of word ≡ Some node → number_of rest ≡ Some end
    → end_name (word ++ (58 ∷ rest)) ≡ Some (record { node = node; end = end })
unfolding end_name
end_read node end word rest d e f =
    bind (number_of (take (before_colon (word ++ (58 ∷ rest))) (word ++ (58 ∷ rest)))) node _ (ap (λ w. number_of w) (before word rest d) ∙ e)
    ∙ bind (number_of (drop (before_colon (word ++ (58 ∷ rest)) + 1) (word ++ (58 ∷ rest)))) end _ (ap (λ w. number_of w) (after word rest d) ∙ f)

-- a number below a hundred, a colon and a digit
pub end_word : (node end : ℕ) (rest : List ℕ) → node < 100 → list_all is_plain rest ≡ true → number_of rest ≡ Some end → IsEndWord node end (decimal node ++ (58 ∷ rest))
end_word node end rest h k e =
    let d = number_word node h in
    record {
      plain = plain_append (decimal node) (58 ∷ rest) d.plain k;
      read = end_read node end (decimal node) rest ((and_parts (not (length (decimal node) == 0)) _ d.run).1) d.read e;
    }
