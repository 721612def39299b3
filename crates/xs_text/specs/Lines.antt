-- Lines. Each ends with a line feed (10), which the last line of a text may lack. A text that ends
-- with a line feed has no empty line after it, and the empty text has no line. One carriage return
-- (13) directly before a line feed is dropped; any other stays in its line.
use Rattle.std.specs.Prelude.{◌≡◌, ◌≤◌, ℕ, ◌+◌, Bool, ◌||◌, ◌&&◌, ◌==◌, if◌then◌else◌, List, [], ◌∷◌, length, drop}
use Rattle.std.specs.List.{slice_range}
use Rattle.xs_text.specs.Bytes.{begins_with}
use Rattle.xs_text.specs.declared.line_reader.Line.{Line}

-- b in front of the first of the lines, or as the only line where there is none
abbrev pub put_in_front : ℕ → List (List ℕ) → List (List ℕ)
put_in_front b [] = (b ∷ []) ∷ []
put_in_front b (line ∷ lines) = (b ∷ line) ∷ lines

-- a carriage return that belongs to the end of its line, as a line feed follows it
abbrev pub is_dropped_return : ℕ → List ℕ → Bool
is_dropped_return b rest = (b == 13) && begins_with 10 rest

-- the lines of b and the bytes after it, whose own lines are given
abbrev pub lines_from : ℕ → List ℕ → List (List ℕ) → List (List ℕ)
lines_from b rest lines =
    if b == 10 then [] ∷ lines
    else (if is_dropped_return b rest then lines else put_in_front b lines)

-- the lines of a text, each without its end
unfoldable pub lines_of : List ℕ → List (List ℕ)
lines_of [] = []
lines_of (b ∷ rest) = lines_from b rest (lines_of rest)

-- How far a text was read: the next byte, and how many lines were given before it.
pub record Reading : Type 0 where
  pub text : List ℕ
  pub at : ℕ
  pub number : ℕ

abbrev pub start_of : List ℕ → Reading
start_of text = record { text = text; at = 0; number = 0 }

-- the bytes that are still to be read
abbrev pub bytes_left : Reading → List ℕ
bytes_left reading = drop reading.at reading.text

-- the bytes of a line of the text, without its end
abbrev pub line_bytes : List ℕ → Line → List ℕ
line_bytes text line = slice_range text line.from line.to

-- whether a line's end begins at b
abbrev pub is_line_end : ℕ → List ℕ → Bool
is_line_end b rest = (b == 10) || is_dropped_return b rest

-- how many bytes the first line has, without its end
unfoldable pub line_length : List ℕ → ℕ
line_length [] = 0
line_length (b ∷ rest) = if is_line_end b rest then 0 else 1 + line_length rest

-- how many bytes the line's end that stands first has: none at the end of the text
abbrev pub end_length : List ℕ → ℕ
end_length [] = 0
end_length (b ∷ rest) = if b == 10 then 1 else 2

-- how many bytes the first line has with its end
abbrev pub whole_line : List ℕ → ℕ
whole_line bytes = line_length bytes + end_length (drop (line_length bytes) bytes)

-- A part of the text that begins at `from`, and ends at `after` or past it, begins with the line. Its other lines
-- are those of the part from `after` on.
abbrev pub IsLineOfParts : List ℕ → Line → ℕ → ℕ → Type 0
IsLineOfParts text line from after =
    (end : ℕ) → after ≤ end → end ≤ length text → lines_of (slice_range text from end) ≡ line_bytes text line ∷ lines_of (slice_range text after end)
