-- Words of a line: blanks part them, and a comment ends the line.
use Rattle.std.specs.Prelude.{ℕ, ◌+◌, Bool, false, ◌||◌, if◌then◌else◌, List, [], ◌∷◌}
use Rattle.xs_text.specs.Bytes.{is_blank}
use Rattle.xs_text.specs.Lines.{put_in_front}
use Rattle.xs_text.specs.Tokens.{begins_comment}

abbrev pub begins_with_blank : List ℕ → Bool
begins_with_blank [] = false
begins_with_blank (b ∷ rest) = is_blank b

-- the bytes before the comment
unfoldable pub without_comment : List ℕ → List ℕ
without_comment [] = []
without_comment (b ∷ rest) = if begins_comment b rest then [] else b ∷ without_comment rest

-- b in front of what comes: in front of the first word, or a word of its own where a blank or nothing follows
abbrev pub onto_words : ℕ → List ℕ → List (List ℕ) → List (List ℕ)
onto_words b [] words = (b ∷ []) ∷ words
onto_words b (c ∷ rest) words = if is_blank c then (b ∷ []) ∷ words else put_in_front b words

unfoldable pub parted : List ℕ → List (List ℕ)
parted [] = []
parted (b ∷ rest) = if is_blank b then parted rest else onto_words b rest (parted rest)

-- the words of a line
abbrev pub words_of_line : List ℕ → List (List ℕ)
words_of_line bytes = parted (without_comment bytes)

-- whether a word ends before b
abbrev pub ends_word : ℕ → List ℕ → Bool
ends_word b rest = is_blank b || begins_comment b rest

-- how many bytes the word has that begins here
unfoldable pub word_length : List ℕ → ℕ
word_length [] = 0
word_length (b ∷ rest) = if ends_word b rest then 0 else 1 + word_length rest
