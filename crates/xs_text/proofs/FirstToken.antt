-- What stands first among the tokens of a line.
use Rattle.std.proofs.Common.{◌≡◌, ℕ, zero, suc, ◌+◌, ◌-◌, ◌<◌, ◌≤◌, Bool, true, false, ◌==◌, List, [], ◌∷◌, ◌++◌, length, take, drop, get_or, refl, ap, sym, ◌∙◌, subst, inl, inr, arith}
use Rattle.std.specs.Prelude.{if◌then◌else◌}
use Rattle.std.specs.List.{list_all, slice_range, prefix_len}
use Rattle.std.specs.Char.{is_ascii_digit}
use Rattle.std.proofs.lemmas.Bool.{and_from, and_left, and_parts, cond-true, cond-false, cases_Bool, cond_both, or_cases, or_from, or_right, eqb-true}
use Rattle.std.proofs.lemmas.Bool.Decides.{nat_tests}
use Rattle.std.proofs.lemmas.List.{drop_all, drop-drop, drop-take, take-take, take_rest, length-drop, length-take-le}
use Rattle.std.proofs.lemmas.List.Sums.{prefix_len-le-length}
use Rattle.xs_text.specs.Bytes.{all_blank, is_blank, is_name_byte, is_name_start}
use Rattle.xs_text.specs.Tokens.{Token, tokens_of, tokens_after, token_of, token_at, token_in, skip_at, tail_length, begins_comment, kind_of, is_name, is_number, is_mark, FormOf, HasForm, BeginsAsName}
use Rattle.xs_text.specs.declared.token_reader.TokKind.{TokKind}
use Rattle.xs_text.specs.declared.token_reader.TokKind.TheVariants.{Name, Number, Mark, Stray}

pub tokens_after-drop : (n : ℕ) (xs : List ℕ) → tokens_after n xs ≡ tokens_of (drop n xs)
unfolding tokens_after
tokens_after-drop zero xs = refl
tokens_after-drop (suc n) [] = refl
tokens_after-drop (suc n) (b ∷ rest) = tokens_after-drop n rest

tokens_of-cons : (b : ℕ) (rest : List ℕ) → tokens_of (b ∷ rest) ≡ token_at b rest ++ tokens_after (skip_at b rest) rest
unfolding tokens_after
tokens_of-cons b rest = refl

pub tokens_of-none : tokens_of [] ≡ []
unfolding tokens_after
tokens_of-none = refl

blank_first : (b : ℕ) (rest : List ℕ) → is_blank b ≡ true → tokens_of (b ∷ rest) ≡ tokens_of rest
blank_first b rest e =
    let P : ℕ → Type 0 = λ b. tokens_of (b ∷ rest) ≡ tokens_of rest in
    elim (or_cases (b == 9) (b == 32) e) [
      | inl t ↦ subst P (sym (eqb-true b 9 t)) (tokens_of-cons 9 rest)
      | inr t ↦ subst P (sym (eqb-true b 32 t)) (tokens_of-cons 32 rest)
    ]

-- blanks hold no token
pub tokens_of-drop_blanks : (xs : List ℕ) → tokens_of xs ≡ tokens_of (drop (prefix_len is_blank xs) xs)
tokens_of-drop_blanks [] = refl
tokens_of-drop_blanks (b ∷ rest) =
    let one : 1 + prefix_len is_blank rest ≡ suc (prefix_len is_blank rest) = omega arith in
    elim (cases_Bool (is_blank b)) [
      | inl t ↦ blank_first b rest t ∙ (tokens_of-drop_blanks rest ∙ ap (λ n. tokens_of (drop n (b ∷ rest))) (sym (cond-true _ _ _ t ∙ one)))
      | inr f ↦ ap (λ n. tokens_of (drop n (b ∷ rest))) (sym (cond-false (is_blank b) (1 + prefix_len is_blank rest) 0 f))
    ]

comment_first : (b : ℕ) (rest : List ℕ) → begins_comment b rest ≡ true → tokens_of (b ∷ rest) ≡ []
comment_first b rest e =
    let none : token_at b rest ≡ [] = cond-true _ _ _ (or_right (is_blank b) _ e) in
    let all : skip_at b rest ≡ length rest = cond-true _ _ _ e in
    let gone : tokens_after (length rest) rest ≡ [] = tokens_after-drop (length rest) rest ∙ (ap (λ l. tokens_of l) (drop_all (length rest) rest (omega arith)) ∙ tokens_of-none) in
    tokens_of-cons b rest ∙ (ap (λ l. l ++ tokens_after (skip_at b rest) rest) none ∙ (ap (λ n. tokens_after n rest) all ∙ gone))

token_first : (b : ℕ) (rest : List ℕ) → is_blank b ≡ false → begins_comment b rest ≡ false → tokens_of (b ∷ rest) ≡ token_of (b ∷ take (tail_length b rest) rest) ∷ tokens_of (drop (tail_length b rest) rest)
token_first b rest e f =
    let one : token_at b rest ≡ token_of (b ∷ take (tail_length b rest) rest) ∷ [] = cond-false _ _ _ (or_from (is_blank b) (begins_comment b rest) e f) in
    let skip : skip_at b rest ≡ tail_length b rest = cond-false _ _ _ f in
    tokens_of-cons b rest ∙ (ap (λ l. l ++ tokens_after (skip_at b rest) rest) one ∙ ap (λ l. token_of (b ∷ take (tail_length b rest) rest) ∷ l) (ap (λ n. tokens_after n rest) skip ∙ tokens_after-drop (tail_length b rest) rest))

pub tail_length-le : (b : ℕ) (rest : List ℕ) → tail_length b rest ≤ length rest
tail_length-le b rest =
    cond_both (is_name_start b) _ _ (λ n. n ≤ length rest) (λ _. prefix_len-le-length _ rest)
    (λ _. cond_both (is_ascii_digit b) _ _ (λ n. n ≤ length rest) (λ _. prefix_len-le-length _ rest) (λ _. omega arith))

-- a comment first, and no token
pub tokens_of-comment : (xs : List ℕ) → 0 < length xs → begins_comment (get_or xs 0 0) (drop 1 xs) ≡ true → tokens_of xs ≡ []
tokens_of-comment [] h e = absurd (omega arith)
tokens_of-comment (b ∷ rest) h e = comment_first b rest e

blank_none : (b : ℕ) (rest : List ℕ) → prefix_len is_blank (b ∷ rest) ≡ 0 → is_blank b ≡ false
blank_none b rest h =
    elim (cases_Bool (is_blank b)) [
      | inl t ↦ let more : prefix_len is_blank (b ∷ rest) ≡ 1 + prefix_len is_blank rest = cond-true _ _ _ t in absurd (omega (arith, h, more))
      | inr f ↦ f
    ]

-- a token first, of n bytes
pub tokens_of-token : (xs : List ℕ) (n : ℕ) → 0 < length xs → prefix_len is_blank xs ≡ 0 → begins_comment (get_or xs 0 0) (drop 1 xs) ≡ false → n ≡ 1 + tail_length (get_or xs 0 0) (drop 1 xs) → tokens_of xs ≡ token_of (take n xs) ∷ tokens_of (drop n xs)
tokens_of-token [] n h blanks e f = absurd (omega arith)
tokens_of-token (b ∷ rest) n h blanks e f =
    let one : suc (tail_length b rest) ≡ 1 + tail_length b rest = omega arith in
    token_first b rest (blank_none b rest blanks) e ∙ ap (λ n. token_of (take n (b ∷ rest)) ∷ tokens_of (drop n (b ∷ rest))) (one ∙ sym f)

pub tokens_of-nothing : (xs : List ℕ) → length xs ≡ 0 → tokens_of xs ≡ []
tokens_of-nothing [] h = tokens_of-none
tokens_of-nothing (b ∷ rest) h = absurd (omega arith)

pub some_bytes : (xs : List ℕ) (r : Bool) → r ≡ (length xs == 0) → r ≡ false → 0 < length xs
some_bytes xs r e f = grind (arith, nat_tests)

-- `&xs[1..]`
pub begins_comment-rest : (b : ℕ) (xs : List ℕ) → begins_comment b (take (length xs - 1) (drop 1 xs)) ≡ begins_comment b (drop 1 xs)
begins_comment-rest b xs = ap (λ l. begins_comment b l) (take_rest xs 1)

pub tail_length-rest : (b : ℕ) (xs : List ℕ) → tail_length b (take (length xs - 1) (drop 1 xs)) ≡ tail_length b (drop 1 xs)
tail_length-rest b xs = ap (λ l. tail_length b l) (take_rest xs 1)

pub token_fits : (xs : List ℕ) (b : ℕ) → 0 < length xs → 1 + tail_length b (drop 1 xs) ≤ length xs
token_fits xs b h = omega (arith, tail_length-le b (drop 1 xs), length-drop 1 xs)

-- no blank follows the blanks
pub blanks_end : (xs : List ℕ) → prefix_len is_blank (drop (prefix_len is_blank xs) xs) ≡ 0
blanks_end [] = refl
blanks_end (b ∷ rest) =
    let one : 1 + prefix_len is_blank rest ≡ suc (prefix_len is_blank rest) = omega arith in
    let P : ℕ → Type 0 = λ n. prefix_len is_blank (drop n (b ∷ rest)) ≡ 0 in
    elim (cases_Bool (is_blank b)) [
      | inl t ↦ subst P (sym (cond-true (is_blank b) (1 + prefix_len is_blank rest) 0 t ∙ one)) (blanks_end rest)
      | inr f ↦ subst P (sym (cond-false (is_blank b) (1 + prefix_len is_blank rest) 0 f)) (cond-false _ _ _ f)
    ]

-- parts of a part of the text
pub slice_range-drop : (text : List ℕ) (at to k : ℕ) → at + k ≤ to → drop k (slice_range text at to) ≡ slice_range text (at + k) to
slice_range-drop text at to k h =
    let e : to - at ≡ k + (to - (at + k)) = omega arith in
    ap (λ n. drop k (take n (drop at text))) e ∙ (drop-take k (to - (at + k)) (drop at text) ∙ ap (λ l. take (to - (at + k)) l) (drop-drop k at text))

pub slice_range-take : (text : List ℕ) (at to n : ℕ) → at + n ≤ to → take n (slice_range text at to) ≡ slice_range text at (at + n)
slice_range-take text at to n h =
    let e : n ≡ (at + n) - at = omega arith in
    take-take n (to - at) (drop at text) (omega arith) ∙ ap (λ k. take k (drop at text)) e

pub length-slice_range : (text : List ℕ) (at to : ℕ) → at ≤ to → to ≤ length text → length (slice_range text at to) ≡ to - at
length-slice_range text at to h k = length-take-le (to - at) (drop at text) (omega (arith, length-drop at text))

-- what is left past the blanks
pub word_is : (text : List ℕ) (at to b : ℕ) → at ≤ to → to ≤ length text → b ≤ length (slice_range text at to) → take (length (slice_range text at to) - b) (drop b (slice_range text at to)) ≡ slice_range text (at + b) to
word_is text at to b h k l = take_rest (slice_range text at to) b ∙ slice_range-drop text at to b (omega (arith, length-slice_range text at to h k))

pub tokens_of-word : (text : List ℕ) (at to b : ℕ) → at ≤ to → to ≤ length text → b ≡ prefix_len is_blank (slice_range text at to) → tokens_of (slice_range text at to) ≡ tokens_of (take (length (slice_range text at to) - b) (drop b (slice_range text at to)))
tokens_of-word text at to b h k e =
    let xs = slice_range text at to in
    tokens_of-drop_blanks xs ∙ (ap (λ n. tokens_of (drop n xs)) (sym e) ∙ ap (λ l. tokens_of l) (sym (take_rest xs b)))

form_at : (named numbered marked : Bool) (bytes : List ℕ) → is_name bytes ≡ named → is_number bytes ≡ numbered → is_mark bytes ≡ marked → FormOf (if named then Name else (if numbered then Number else (if marked then Mark else Stray))) bytes
form_at true numbered marked bytes e f g = e
form_at false true marked bytes e f g = f
form_at false false true bytes e f g = g
form_at false false false bytes e f g = tt

form_of : (bytes : List ℕ) → HasForm (token_of bytes)
form_of bytes = form_at (is_name bytes) (is_number bytes) (is_mark bytes) bytes refl refl refl

pub record IsFirst (text : List ℕ) (at to from end : ℕ) (kind : TokKind) : Type 0 where
  pub token : tokens_of (slice_range text at to) ≡ token_in text (record { kind = kind; from = from; to = end }) ∷ tokens_of (slice_range text end to)
  pub form : HasForm (token_in text (record { kind = kind; from = from; to = end }))

first_in : (text word : List ℕ) (at to from n : ℕ) (kind : TokKind) → word ≡ slice_range text from to → tokens_of (slice_range text at to) ≡ tokens_of word → tokens_of word ≡ token_of (take n word) ∷ tokens_of (drop n word) → from + n ≤ to → kind ≡ kind_of (take n word) → IsFirst text at to from (from + n) kind
first_in text word at to from n kind word_is same first h kind_is =
    let bytes : take n word ≡ slice_range text from (from + n) = ap (λ l. take n l) word_is ∙ slice_range-take text from to n h in
    let after : drop n word ≡ slice_range text (from + n) to = ap (λ l. drop n l) word_is ∙ slice_range-drop text from to n h in
    let kept : kind ≡ kind_of (slice_range text from (from + n)) = kind_is ∙ ap kind_of bytes in
    let span : token_of (slice_range text from (from + n)) ≡ token_in text (record { kind = kind; from = from; to = from + n }) = ap (λ k. token_in text (record { kind = k; from = from; to = from + n })) (sym kept) in
    record {
      token = same ∙ (first ∙ (ap (λ l. token_of l ∷ tokens_of (drop n word)) bytes ∙ (ap (λ t. t ∷ tokens_of (drop n word)) span ∙ ap (λ l. token_in text (record { kind = kind; from = from; to = from + n }) ∷ tokens_of l) after)));
      form = let P : Token → Type 0 = λ t. HasForm t in subst P span (form_of (slice_range text from (from + n)));
    }

-- the first token, past b blanks and n bytes long
pub first_is : (text : List ℕ) (at to b n : ℕ) (kind : TokKind) → at ≤ to → to ≤ length text → b ≤ length (slice_range text at to) → b ≡ prefix_len is_blank (slice_range text at to) → (let word = take (length (slice_range text at to) - b) (drop b (slice_range text at to)) in (tokens_of word ≡ token_of (take n word) ∷ tokens_of (drop n word)) → n ≤ length word → kind ≡ kind_of (take n word) → IsFirst text at to (at + b) (at + b + n) kind)
first_is text at to b n kind h k l e first fits kind_is =
    let is_word = word_is text at to b h k l in
    let long : length (slice_range text at to) ≡ to - at = length-slice_range text at to h k in
    let word_long : length (slice_range text (at + b) to) ≡ to - (at + b) = length-slice_range text (at + b) to (omega arith) k in
    let same_length = ap length is_word in
    first_in text _ at to (at + b) n kind is_word (tokens_of-word text at to b h k e) first (omega arith) kind_is

-- the bytes that are counted pass
run_passes : (passes : ℕ → Bool) (xs : List ℕ) → list_all passes (take (prefix_len passes xs) xs) ≡ true
run_passes passes [] = refl
run_passes passes (b ∷ rest) =
    let one : 1 + prefix_len passes rest ≡ suc (prefix_len passes rest) = omega arith in
    let P : ℕ → Type 0 = λ n. list_all passes (take n (b ∷ rest)) ≡ true in
    elim (cases_Bool (passes b)) [
      | inl t ↦ subst P (sym (cond-true (passes b) (1 + prefix_len passes rest) 0 t ∙ one)) (and_from _ _ t (run_passes passes rest))
      | inr f ↦ subst P (sym (cond-false (passes b) (1 + prefix_len passes rest) 0 f)) refl
    ]

-- the blanks at the front of a part of the text
pub blanks_first : (text : List ℕ) (at to b : ℕ) → at ≤ to → to ≤ length text → b ≤ length (slice_range text at to) → b ≡ prefix_len is_blank (slice_range text at to) → all_blank (slice_range text at (at + b)) ≡ true
blanks_first text at to b h k l e =
    let part : slice_range text at (at + b) ≡ take (prefix_len is_blank (slice_range text at to)) (slice_range text at to) =
    sym (slice_range-take text at to b (omega (arith, length-slice_range text at to h k))) ∙ ap (λ n. take n (slice_range text at to)) e in
    ap (λ l. all_blank l) part ∙ run_passes is_blank (slice_range text at to)

-- a token that begins as a name is one as a whole
pub whole_name : (xs : List ℕ) (n : ℕ) → n ≡ 1 + tail_length (get_or xs 0 0) (drop 1 xs) → BeginsAsName xs → is_name (take n xs) ≡ true
whole_name [] n e h = absurd h
whole_name (b ∷ rest) n e h =
    let one : 1 + tail_length b rest ≡ suc (tail_length b rest) = omega arith in
    let tail : tail_length b rest ≡ prefix_len is_name_byte rest = cond-true _ _ _ h in
    let P : ℕ → Type 0 = λ n. is_name (take n (b ∷ rest)) ≡ true in
    subst P (sym (e ∙ (one ∙ ap suc tail))) (and_from _ _ h (run_passes is_name_byte rest))

pub none_begins : (xs : List ℕ) → length xs ≡ 0 → BeginsAsName xs → is_name (take 0 xs) ≡ true
none_begins [] h e = absurd e
none_begins (b ∷ rest) h e = absurd (omega arith)

-- a comment begins as no name
comment_first_byte : (b : ℕ) (rest : List ℕ) → begins_comment b rest ≡ true → is_name_start b ≡ false
comment_first_byte b rest e =
    let P : ℕ → Type 0 = λ b. is_name_start b ≡ false in
    elim (or_cases (b == 35) _ e) [
      | inl t ↦ subst P (sym (eqb-true b 35 t)) refl
      | inr t ↦ subst P (sym (eqb-true b 47 (and_parts (b == 47) _ t).0)) refl
    ]

pub comment_begins : (xs : List ℕ) → begins_comment (get_or xs 0 0) (drop 1 xs) ≡ true → BeginsAsName xs → is_name (take 0 xs) ≡ true
comment_begins [] e h = absurd h
comment_begins (b ∷ rest) e h = let f = comment_first_byte b rest e in cc

-- a word that begins as no name is none
pub begins_as_name : (xs : List ℕ) → is_name_start (get_or xs 0 0) ≡ true → 0 < length xs → BeginsAsName xs
begins_as_name [] e h = absurd (omega arith)
begins_as_name (b ∷ rest) e h = e

pub no_name : (xs : List ℕ) → is_name_start (get_or xs 0 0) ≡ false → 0 < length xs → is_name xs ≡ false
no_name [] e h = absurd (omega arith)
no_name (b ∷ rest) e h = and_left _ _ e
