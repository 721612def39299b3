-- The words of a line with the places at which they stand, counted from 0.
use Rattle.std.specs.Prelude.{ℕ, zero, suc, ◌+◌, if◌then◌else◌, List, [], ◌∷◌, length, take, drop}
use Rattle.xs_text.specs.Bytes.{is_blank}
use Rattle.xs_text.specs.Tokens.{begins_comment}
use Rattle.xs_text.specs.Words.{word_length}

-- a word, and the place of its first byte
pub record PlacedWord : Type 0 where
  pub at : ℕ
  pub bytes : List ℕ

-- the place behind its last byte
abbrev pub end_of_word : PlacedWord → ℕ
end_of_word word = word.at + length word.bytes

-- the words after the first bytes, `skip` many, where the first byte stands at a place: blanks part them, and a comment ends the line
unfoldable pub words_after : ℕ → ℕ → List ℕ → List PlacedWord
words_after skip at [] = []
words_after zero at (b ∷ rest) =
    if is_blank b then words_after zero (at + 1) rest
    else (if begins_comment b rest then []
    else record { at = at; bytes = b ∷ take (word_length rest) rest } ∷ words_after (word_length rest) (at + 1) rest)
words_after (suc skip) at (b ∷ rest) = words_after skip (at + 1) rest

-- the words of a line
abbrev pub placed_words : List ℕ → List PlacedWord
placed_words line = words_after 0 0 line

-- those that are left of a line from a place on
abbrev pub words_left : List ℕ → ℕ → List PlacedWord
words_left line at = words_after 0 at (drop at line)
