-- The labels of lines, with the numbers of the lines that define them.
use Rattle.std.specs.Prelude.{ℕ, ◌+◌, if◌then◌else◌, Option, Some, None, List, [], ◌∷◌, map}
use Rattle.xs_text.specs.Bytes.{all_allowed}
use Rattle.xs_instructions.specs.Image.{Symbol, address_of, defined, is_reserved}
use Rattle.explain_model.specs.Placed.{Placed, placed_tokens, placed_labels}

-- a label more, where its line has a number: a reserved name defines nothing, and of two of a name the first counts
abbrev pub note_label : ℕ → List ℕ → List Symbol → List Symbol
note_label n name labels = if is_reserved name then labels else defined name n labels

unfoldable pub note_labels : ℕ → List (List ℕ) → List Symbol → List Symbol
note_labels n [] labels = labels
note_labels n (name ∷ names) labels = note_labels n names (note_label n name labels)

abbrev pub bytes_of : List Placed → List (List ℕ)
bytes_of tokens = map (λ (p : Placed). p.token.bytes) tokens

-- those of a line with a number: one with a byte that is not allowed defines nothing
abbrev pub note_line : ℕ → List ℕ → List Symbol → List Symbol
note_line n l labels = if all_allowed l then note_labels n (bytes_of (placed_labels (placed_tokens l))) labels else labels

-- those of some lines, of which the first has a number
unfoldable pub note_lines : ℕ → List (List ℕ) → List Symbol → List Symbol
note_lines n [] labels = labels
note_lines n (l ∷ ls) labels = note_lines (n + 1) ls (note_line n l labels)

-- the labels of some lines, of which the first has a number
abbrev pub labels_of : ℕ → List (List ℕ) → List Symbol
labels_of n ls = note_lines n ls []

abbrev pub names_of : List Symbol → List (List ℕ)
names_of labels = map (λ (s : Symbol). s.0) labels

-- a label that is defined already, and the number of the line that defines it
pub record Twice : Type 0 where
  pub label : Placed
  pub line : ℕ

abbrev pub twice_or : Option ℕ → Placed → Option Twice → Option Twice
twice_or None p after = after
twice_or (Some line) p after = Some (record { label = p; line = line })

-- the first of these labels of line n that a line before or one before it in the line defines
unfoldable pub first_twice : ℕ → List Symbol → List Placed → Option Twice
first_twice n labels [] = None
first_twice n labels (p ∷ rest) = twice_or (address_of labels p.token.bytes) p (first_twice n (note_label n p.token.bytes labels) rest)
