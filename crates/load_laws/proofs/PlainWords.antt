-- A line that is put together of plain words and blanks between them has these words.
use Rattle.std.proofs.Common.{◌≡◌, ℕ, Bool, true, false, ◌&&◌, not, ◌==◌, List, [], ◌∷◌, ◌++◌, refl, sym, ap, ◌∙◌}
use Rattle.std.proofs.lemmas.List.{append-nil}
use Rattle.std.specs.List.{list_all}
use Rattle.std.proofs.lemmas.Bool.{and_parts, cond-false, or_from}
use Rattle.xs_text.specs.Bytes.{is_blank, begins_with}
use Rattle.xs_text.specs.Tokens.{begins_comment}
use Rattle.xs_text.specs.Words.{without_comment, parted, words_of_line}
use Rattle.xs_text.specs.Lines.{put_in_front}

-- neither a blank nor a byte that may begin a comment
abbrev pub is_plain : ℕ → Bool
is_plain b = not (is_blank b) && (not (b == 35) && not (b == 47))

-- one or more plain bytes
abbrev pub is_plain_word : List ℕ → Bool
is_plain_word [] = false
is_plain_word (b ∷ word) = list_all is_plain (b ∷ word)

-- what a test that is not passed gives
not_passing : (t : Bool) → not t ≡ true → t ≡ false
not_passing true h = absurd (cc)
not_passing false h = refl

-- a plain byte is no blank
plain_no_blank : (b : ℕ) → is_plain b ≡ true → is_blank b ≡ false
plain_no_blank b h = not_passing (is_blank b) ((and_parts (not (is_blank b)) _ h).0)

-- no comment begins at a plain byte
plain_no_comment : (b : ℕ) (rest : List ℕ) → is_plain b ≡ true → begins_comment b rest ≡ false
plain_no_comment b rest h =
    let p = and_parts (not (b == 35)) (not (b == 47)) ((and_parts (not (is_blank b)) _ h).1) in
    or_from (b == 35) _ (not_passing (b == 35) p.0) (ap (λ t. t && begins_with 47 rest) (not_passing (b == 47) p.1))

-- no comment begins within plain bytes
plain_kept : (bytes rest : List ℕ) → list_all is_plain bytes ≡ true → without_comment (bytes ++ rest) ≡ bytes ++ without_comment rest
unfolding without_comment
plain_kept [] rest h = refl
plain_kept (b ∷ bytes) rest h =
    let p = and_parts (is_plain b) (list_all is_plain bytes) h in
    cond-false _ _ _ (plain_no_comment b (bytes ++ rest) p.0) ∙ ap (λ t. b ∷ t) (plain_kept bytes rest p.1)

-- plain bytes up to a blank are a word
word_before : (b : ℕ) (word rest : List ℕ) → is_plain b ≡ true → list_all is_plain word ≡ true → parted (b ∷ (word ++ (32 ∷ rest))) ≡ (b ∷ word) ∷ parted rest
unfolding parted
word_before b [] rest h k = cond-false _ _ _ (plain_no_blank b h)
word_before b (c ∷ word) rest h k =
    let p = and_parts (is_plain c) (list_all is_plain word) k in
    cond-false _ _ _ (plain_no_blank b h)
    ∙ (cond-false _ _ _ (plain_no_blank c p.0) ∙ ap (put_in_front b) (word_before c word rest p.0 p.1))

-- plain bytes up to the end are a word
word_at_end : (b : ℕ) (word : List ℕ) → is_plain b ≡ true → list_all is_plain word ≡ true → parted (b ∷ word) ≡ (b ∷ word) ∷ []
unfolding parted
word_at_end b [] h k = cond-false _ _ _ (plain_no_blank b h)
word_at_end b (c ∷ word) h k =
    let p = and_parts (is_plain c) (list_all is_plain word) k in
    cond-false _ _ _ (plain_no_blank b h)
    ∙ (cond-false _ _ _ (plain_no_blank c p.0) ∙ ap (put_in_front b) (word_at_end c word p.0 p.1))

-- no comment begins at a blank
blank_kept : (rest : List ℕ) → without_comment (32 ∷ rest) ≡ 32 ∷ without_comment rest
unfolding without_comment
blank_kept rest = refl

-- no bytes have no comment
nothing_left : without_comment [] ≡ []
unfolding without_comment
nothing_left = refl

-- the first word of a line
pub words_next : (word rest : List ℕ) → is_plain_word word ≡ true → words_of_line (word ++ (32 ∷ rest)) ≡ word ∷ words_of_line rest
words_next [] rest h = absurd (cc)
words_next (b ∷ word) rest h =
    let p = and_parts (is_plain b) (list_all is_plain word) h in
    ap parted (plain_kept (b ∷ word) (32 ∷ rest) h ∙ ap (λ t. (b ∷ word) ++ t) (blank_kept rest))
    ∙ word_before b word (without_comment rest) p.0 p.1

-- the last word of a line
pub words_last : (word : List ℕ) → is_plain_word word ≡ true → words_of_line word ≡ word ∷ []
words_last [] h = absurd (cc)
words_last (b ∷ word) h =
    let p = and_parts (is_plain b) (list_all is_plain word) h in
    ap parted (ap without_comment (sym (append-nil (b ∷ word))) ∙ (plain_kept (b ∷ word) [] h ∙ (ap (λ t. (b ∷ word) ++ t) nothing_left ∙ append-nil (b ∷ word))))
    ∙ word_at_end b word p.0 p.1

-- a blank in front of a line counts for nothing
pub words_after_blank : (rest : List ℕ) → words_of_line (32 ∷ rest) ≡ words_of_line rest
unfolding without_comment parted
words_after_blank rest = refl
