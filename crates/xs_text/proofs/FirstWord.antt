-- Where the first word of a line ends, and what the words after it are.
use Rattle.std.proofs.Common.{◌≡◌, ℕ, suc, ◌+◌, ◌-◌, ◌<◌, ◌≤◌, true, false, List, [], ◌∷◌, length, take, drop, get_or, refl, ap, sym, ◌∙◌, subst, inl, inr, arith}
use Rattle.std.proofs.lemmas.Bool.{cond-true, cond-false, cases_Bool, or_parts, or_cases}
use Rattle.std.proofs.lemmas.Bool.Decides.{nat_tests}
use Rattle.std.proofs.lemmas.List.{at_drop_more, at_drop_all, take_rest}
use Rattle.std.specs.List.{prefix_len}
use Rattle.xs_text.specs.Bytes.{is_blank}
use Rattle.xs_text.proofs.FirstToken.{blanks_end}
use Rattle.xs_text.specs.Tokens.{begins_comment}
use Rattle.xs_text.specs.Lines.{put_in_front}
use Rattle.xs_text.specs.Words.{words_of_line, without_comment, parted, onto_words, ends_word, word_length}

word_length-end : (b : ℕ) (rest : List ℕ) → ends_word b rest ≡ true → word_length (b ∷ rest) ≡ 0
unfolding word_length
word_length-end b rest e = cond-true _ _ _ e

word_length-more : (b : ℕ) (rest : List ℕ) → ends_word b rest ≡ false → word_length (b ∷ rest) ≡ suc (word_length rest)
unfolding word_length
word_length-more b rest e = let one : 1 + word_length rest ≡ suc (word_length rest) = omega arith in cond-false _ _ _ e ∙ one

word_length-none : word_length [] ≡ 0
unfolding word_length
word_length-none = refl

-- the steps of the loop that counts a word's bytes
pub word_length-drop_more : (xs : List ℕ) (i : ℕ) → i < length xs → ends_word (get_or xs i 0) (drop (i + 1) xs) ≡ false → word_length (drop i xs) ≡ suc (word_length (drop (i + 1) xs))
word_length-drop_more xs i h e = at_drop_more word_length xs i 0 h ∙ word_length-more _ _ e

pub word_length-drop_end : (xs : List ℕ) (i : ℕ) → i < length xs → ends_word (get_or xs i 0) (drop (i + 1) xs) ≡ true → word_length (drop i xs) ≡ 0
word_length-drop_end xs i h e = at_drop_more word_length xs i 0 h ∙ word_length-end _ _ e

pub word_length-drop_all : (xs : List ℕ) (i : ℕ) → length xs ≤ i → word_length (drop i xs) ≡ 0
word_length-drop_all xs i h = at_drop_all word_length xs i h ∙ word_length-none

pub ruleset word_steps = (word_length-drop_more, word_length-drop_end, word_length-drop_all)

words-none : words_of_line [] ≡ []
unfolding without_comment parted
words-none = refl

-- a comment leaves no words
words-comment : (b : ℕ) (rest : List ℕ) → begins_comment b rest ≡ true → words_of_line (b ∷ rest) ≡ []
unfolding without_comment parted
words-comment b rest e = rw e refl

blank_no_comment : (b : ℕ) (rest : List ℕ) → is_blank b ≡ true → begins_comment b rest ≡ false
blank_no_comment b rest e = grind (arith, nat_tests)

-- a blank parts words and is in none
words-blank : (b : ℕ) (rest : List ℕ) → is_blank b ≡ true → words_of_line (b ∷ rest) ≡ words_of_line rest
unfolding without_comment parted
words-blank b rest e = rw (blank_no_comment b rest e, e) refl

-- another byte goes in front of what comes
words-more : (b : ℕ) (rest : List ℕ) → ends_word b rest ≡ false → words_of_line (b ∷ rest) ≡ onto_words b (without_comment rest) (words_of_line rest)
unfolding without_comment parted
words-more b rest e = let p = or_parts (is_blank b) (begins_comment b rest) e in rw (p.1, p.0) refl

-- the words where the first has n bytes
abbrev cut_at : ℕ → List ℕ → List (List ℕ)
cut_at n xs = take n xs ∷ words_of_line (drop n xs)

-- a word of one byte, where the word ends behind it
onto-end : (b c : ℕ) (rest : List ℕ) → ends_word c rest ≡ true → onto_words b (without_comment (c ∷ rest)) (words_of_line (c ∷ rest)) ≡ (b ∷ []) ∷ words_of_line (c ∷ rest)
unfolding without_comment
onto-end b c rest e =
    elim (or_cases (is_blank c) (begins_comment c rest) e) [
      | inl t ↦ rw (blank_no_comment c rest t, t) refl
      | inr t ↦ rw t refl
    ]

onto-more : (b c : ℕ) (rest : List ℕ) → ends_word c rest ≡ false → (words : List (List ℕ)) → onto_words b (without_comment (c ∷ rest)) words ≡ put_in_front b words
unfolding without_comment
onto-more b c rest e words = let p = or_parts (is_blank c) (begins_comment c rest) e in rw (p.1, p.0) refl

onto-none : (b : ℕ) → onto_words b (without_comment []) (words_of_line []) ≡ (b ∷ []) ∷ words_of_line []
unfolding without_comment parted
onto-none b = refl

-- the first word, and the words after it
pub words-cut : (b : ℕ) (rest : List ℕ) → ends_word b rest ≡ false → words_of_line (b ∷ rest) ≡ cut_at (word_length (b ∷ rest)) (b ∷ rest)
words-cut b [] e = rw (words-more b [] e, word_length-more b [] e, word_length-none) (onto-none b)
words-cut b (c ∷ rest) e =
    elim (cases_Bool (ends_word c rest)) [
      | inl t ↦ words-more b (c ∷ rest) e ∙ (onto-end b c rest t ∙ ap (λ n. cut_at n (b ∷ c ∷ rest)) (sym (word_length-more b (c ∷ rest) e ∙ ap suc (word_length-end c rest t))))
      | inr f ↦ words-more b (c ∷ rest) e ∙ (onto-more b c rest f _ ∙ (ap (put_in_front b) (words-cut c rest f) ∙ ap (λ n. cut_at n (b ∷ c ∷ rest)) (sym (word_length-more b (c ∷ rest) e))))
    ]

-- blanks in front change nothing
pub words-drop_blanks : (xs : List ℕ) → words_of_line (drop (prefix_len is_blank xs) xs) ≡ words_of_line xs
words-drop_blanks [] = refl
words-drop_blanks (b ∷ rest) =
    let one : 1 + prefix_len is_blank rest ≡ suc (prefix_len is_blank rest) = omega arith in
    let P : ℕ → Type 0 = λ n. words_of_line (drop n (b ∷ rest)) ≡ words_of_line (b ∷ rest) in
    elim (cases_Bool (is_blank b)) [
      | inl t ↦ subst P (sym (cond-true (is_blank b) (1 + prefix_len is_blank rest) 0 t ∙ one)) (words-drop_blanks rest ∙ sym (words-blank b rest t))
      | inr f ↦ subst P (sym (cond-false (is_blank b) (1 + prefix_len is_blank rest) 0 f)) refl
    ]

word_ends : (b : ℕ) (rest : List ℕ) → word_length (b ∷ rest) ≡ 0 → ends_word b rest ≡ true
word_ends b rest e =
    elim (cases_Bool (ends_word b rest)) [ inl t ↦ t | inr f ↦ absurd (omega (arith, e, word_length-more b rest f)) ]

word_goes_on : (b : ℕ) (rest : List ℕ) → 0 < word_length (b ∷ rest) → ends_word b rest ≡ false
word_goes_on b rest h =
    elim (cases_Bool (ends_word b rest)) [ inl t ↦ absurd (omega (arith, h, word_length-end b rest t)) | inr f ↦ f ]

not_blank : (b : ℕ) (rest : List ℕ) → prefix_len is_blank (b ∷ rest) ≡ 0 → is_blank b ≡ false
not_blank b rest h =
    elim (cases_Bool (is_blank b)) [
      | inl t ↦ let more : prefix_len is_blank (b ∷ rest) ≡ 1 + prefix_len is_blank rest = cond-true _ _ _ t in absurd (omega (arith, h, more))
      | inr f ↦ f
    ]

no_words_here : (word : List ℕ) → prefix_len is_blank word ≡ 0 → word_length word ≡ 0 → words_of_line word ≡ []
no_words_here [] h e = words-none
no_words_here (b ∷ rest) h e =
    elim (or_cases (is_blank b) (begins_comment b rest) (word_ends b rest e)) [
      | inl t ↦ let f = not_blank b rest h in cc
      | inr t ↦ words-comment b rest t
    ]

a_word_here : (word : List ℕ) → 0 < word_length word → words_of_line word ≡ cut_at (word_length word) word
a_word_here [] h = absurd (omega (arith, h, word_length-none))
a_word_here (b ∷ rest) h = words-cut b rest (word_goes_on b rest h)

-- past the blanks, `&xs[blanks..]`
past_blanks : (xs : List ℕ) (blanks : ℕ) → blanks ≡ prefix_len is_blank xs → take (length xs - blanks) (drop blanks xs) ≡ drop (prefix_len is_blank xs) xs
past_blanks xs blanks e = take_rest xs blanks ∙ ap (λ n. drop n xs) e

pub no_word : (xs : List ℕ) (blanks n : ℕ) → blanks ≡ prefix_len is_blank xs → n ≡ word_length (take (length xs - blanks) (drop blanks xs)) → n ≡ 0 → words_of_line xs ≡ []
no_word xs blanks n e f z =
    let at = drop (prefix_len is_blank xs) xs in
    let long : word_length at ≡ 0 = ap word_length (sym (past_blanks xs blanks e)) ∙ (sym f ∙ z) in
    sym (words-drop_blanks xs) ∙ no_words_here at (blanks_end xs) long

pub first_word : (xs : List ℕ) (blanks n : ℕ) → blanks ≡ prefix_len is_blank xs → n ≡ word_length (take (length xs - blanks) (drop blanks xs)) → (n ≡ 0 → ⊥) → (let word = take (length xs - blanks) (drop blanks xs) in words_of_line xs ≡ take n word ∷ words_of_line (take (length word - n) (drop n word)))
first_word xs blanks n e f ne =
    let word = take (length xs - blanks) (drop blanks xs) in
    let here : words_of_line word ≡ cut_at (word_length word) word = a_word_here word (omega arith) in
    let same : words_of_line xs ≡ words_of_line word = sym (words-drop_blanks xs) ∙ ap (λ l. words_of_line l) (sym (past_blanks xs blanks e)) in
    same ∙ (here ∙ (ap (λ k. cut_at k word) (sym f) ∙ ap (λ l. take n word ∷ words_of_line l) (sym (take_rest word n))))
