-- What the lines before a line are, one line more.
use Rattle.std.proofs.Common.{◌≡◌, ℕ, suc, ◌+◌, List, [], ◌∷◌, ◌++◌, get_or, refl, ap, sym, ◌∙◌, append-nil}
use Rattle.xs_text.specs.Lines.{lines_of}
use Rattle.xs_text.specs.Words.{without_comment, parted, words_of_line}
use Rattle.explain_frame_model.specs.declared.frame.Inside.{Inside}
use Rattle.explain_frame_model.specs.FrameBefore.{EarlierLine, put_line, lines_from, inside_after, inside_after_lines}

no_words : words_of_line [] ≡ []
unfolding without_comment parted
no_words = refl

-- of a line without words no word is left
pub no_words-left : (line : List ℕ) (i : ℕ) → words_of_line line ≡ [] → get_or (words_of_line line) (suc i) [] ≡ get_or (words_of_line []) i []
no_words-left line i e =
    ap (λ (words : List (List ℕ)). get_or words (suc i) []) e ∙ sym (ap (λ (words : List (List ℕ)). get_or words i []) no_words)

pub no_lines-left : (text : List ℕ) → text ≡ [] → lines_of text ≡ []
unfolding lines_of
no_lines-left text e = ap lines_of e

pub lines-next : (kept after : List EarlierLine) (n : ℕ) (inside later : Inside) (ls : List (List ℕ)) (l : List ℕ) (rest : List (List ℕ)) → ls ≡ l ∷ rest
    → ((more : List EarlierLine) → after ++ more ≡ kept ++ put_line inside (n + 1) (words_of_line l) more) → later ≡ inside_after inside l
    → after ++ lines_from (n + 1 + 1) later rest ≡ kept ++ lines_from (n + 1) inside ls
unfolding lines_from
lines-next kept after n inside later ls l rest e put is =
    put (lines_from (n + 1 + 1) later rest)
    ∙ (ap (λ (i : Inside). kept ++ put_line inside (n + 1) (words_of_line l) (lines_from (n + 1 + 1) i rest)) is
    ∙ sym (ap (λ (x : List (List ℕ)). kept ++ lines_from (n + 1) inside x) e))

pub inside-next : (inside later : Inside) (ls : List (List ℕ)) (l : List ℕ) (rest : List (List ℕ)) → ls ≡ l ∷ rest → later ≡ inside_after inside l
    → inside_after_lines later rest ≡ inside_after_lines inside ls
unfolding inside_after_lines
inside-next inside later ls l rest e is =
    ap (λ (i : Inside). inside_after_lines i rest) is ∙ sym (ap (λ (x : List (List ℕ)). inside_after_lines inside x) e)

pub lines-none : (kept : List EarlierLine) (n : ℕ) (inside : Inside) (ls : List (List ℕ)) → ls ≡ [] → kept ++ lines_from n inside ls ≡ kept
unfolding lines_from
lines-none kept n inside ls e = ap (λ (x : List (List ℕ)). kept ++ lines_from n inside x) e ∙ append-nil kept

pub inside-none : (inside : Inside) (ls : List (List ℕ)) → ls ≡ [] → inside_after_lines inside ls ≡ inside
unfolding inside_after_lines
inside-none inside ls e = ap (λ (x : List (List ℕ)). inside_after_lines inside x) e
