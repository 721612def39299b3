-- Where the first word of a line stands, and what the words after it are.
use Rattle.std.proofs.Common.{◌≡◌, ℕ, zero, suc, ◌+◌, ◌-◌, ◌<◌, ◌≤◌, true, false, List, [], ◌∷◌, length, take, drop, get_or, refl, ap, sym, ◌∙◌, inl, inr, arith}
use Rattle.std.proofs.lemmas.Bool.{cond-true, cond-false, or_parts, or_cases}
use Rattle.std.proofs.lemmas.List.{at_drop_more, at_drop_all, drop-drop, length-drop}
use Rattle.xs_text.specs.Bytes.{is_blank}
use Rattle.xs_text.specs.Tokens.{begins_comment}
use Rattle.xs_text.specs.Words.{ends_word, word_length}
use Rattle.explain_model.specs.Words.{PlacedWord, words_after, words_left}

none_after : (at : ℕ) → words_after 0 at [] ≡ []
unfolding words_after
none_after at = refl

blank_first : (at b : ℕ) (rest : List ℕ) → is_blank b ≡ true → words_after 0 at (b ∷ rest) ≡ words_after 0 (at + 1) rest
unfolding words_after
blank_first at b rest e = cond-true _ _ _ e

comment_first : (at b : ℕ) (rest : List ℕ) → is_blank b ≡ false → begins_comment b rest ≡ true → words_after 0 at (b ∷ rest) ≡ []
unfolding words_after
comment_first at b rest e f = cond-false _ _ _ e ∙ cond-true _ _ _ f

word_first : (at b : ℕ) (rest : List ℕ) → is_blank b ≡ false → begins_comment b rest ≡ false
    → words_after 0 at (b ∷ rest) ≡ record { at = at; bytes = b ∷ take (word_length rest) rest } ∷ words_after (word_length rest) (at + 1) rest
unfolding words_after
word_first at b rest e f = cond-false _ _ _ e ∙ cond-false _ _ _ f

words_after-none : (n at : ℕ) → words_after n at [] ≡ []
unfolding words_after
words_after-none zero at = refl
words_after-none (suc n) at = refl

-- bytes of what came before begin no word
words_after-drop : (n at : ℕ) (xs : List ℕ) → n ≤ length xs → words_after n at xs ≡ words_after 0 (at + n) (drop n xs)
unfolding words_after
words_after-drop zero at xs h = let e : at ≡ at + 0 = omega arith in ap (λ a. words_after 0 a xs) e
words_after-drop (suc n) at [] h = absurd (omega arith)
words_after-drop (suc n) at (b ∷ rest) h =
    let e : (at + 1) + n ≡ at + suc n = omega arith in
    words_after-drop n (at + 1) rest (omega arith) ∙ ap (λ a. words_after 0 a (drop n rest)) e

-- the steps of the loop that looks for a word

pub words_left-blank : (xs : List ℕ) (i : ℕ) → i < length xs → is_blank (get_or xs i 0) ≡ true → words_left xs i ≡ words_left xs (i + 1)
words_left-blank xs i h e = at_drop_more (words_after 0 i) xs i 0 h ∙ blank_first i _ _ e

pub words_left-comment : (xs : List ℕ) (i : ℕ) → i < length xs → is_blank (get_or xs i 0) ≡ false → ends_word (get_or xs i 0) (drop (i + 1) xs) ≡ true → words_left xs i ≡ []
words_left-comment xs i h e f =
    elim (or_cases (is_blank (get_or xs i 0)) (begins_comment (get_or xs i 0) (drop (i + 1) xs)) f) [
      | inl t ↦ absurd cc
      | inr t ↦ at_drop_more (words_after 0 i) xs i 0 h ∙ comment_first i _ _ e t
    ]

pub words_left-all : (xs : List ℕ) (i : ℕ) → length xs ≤ i → words_left xs i ≡ []
words_left-all xs i h = at_drop_all (words_after 0 i) xs i h ∙ none_after i

pub ruleset word_steps = (words_left-blank, words_left-comment, words_left-all)

-- the word that begins at a place, where it ends at another
pub word_here : (xs : List ℕ) (i m : ℕ) → i < length xs → ends_word (get_or xs i 0) (drop (i + 1) xs) ≡ false → m ≡ (i + 1) + word_length (drop (i + 1) xs) → m ≤ length xs
    → words_left xs i ≡ record { at = i; bytes = take (m - i) (drop i xs) } ∷ words_left xs m
word_here xs i m h e same within =
    let p = or_parts (is_blank (get_or xs i 0)) (begins_comment (get_or xs i 0) (drop (i + 1) xs)) e in
    let rest = drop (i + 1) xs in
    let n = word_length rest in
    let long : n ≤ length rest = omega (arith, length-drop (i + 1) xs) in
    let after : words_after n (i + 1) rest ≡ words_left xs m =
    words_after-drop n (i + 1) rest long ∙ (ap (λ l. words_after 0 ((i + 1) + n) l) (drop-drop n (i + 1) xs) ∙ ap (λ k. words_left xs k) (sym same)) in
    let count : m - i ≡ suc n = omega arith in
    let bytes : take (m - i) (drop i xs) ≡ get_or xs i 0 ∷ take n rest = ap (λ k. take k (drop i xs)) count ∙ at_drop_more (take (suc n)) xs i 0 h in
    at_drop_more (words_after 0 i) xs i 0 h
    ∙ (word_first i _ _ p.0 p.1
    ∙ (ap (λ l. record { at = i; bytes = get_or xs i 0 ∷ take n rest } ∷ l) after
    ∙ ap (λ l. record { at = i; bytes = l } ∷ words_left xs m) (sym bytes)))
