-- The lines of a frame as the reader takes them: no form is a bad line, and else each number has to be in its range.
use Rattle.std.specs.Prelude.{ℕ, ◌≡◌, Bool, ◌&&◌, nat_le, if◌then◌else◌, is_some, min, Option, Some, None, Result, Ok, Err, List, [], ◌∷◌}
use Rattle.std.specs.List.{list_all}
use Rattle.arrayvec.specs.ArrayVec.{ArrayVec}
use Rattle.xs_text.specs.Numbers.{number_of, at_most}
use Rattle.system_model.specs.declared.SysKind.{SysKind}
use Rattle.system_model.specs.declared.SysKind.TheVariants.{BadLine, NumberOutOfRange}
use Rattle.system_model.specs.declared.frame_line.EndName.{EndName}
use Rattle.system_model.specs.declared.frame_line.FrameLine.{FrameLine}
use Rattle.system_model.specs.FrameLines.{are_numbers_in_range}
use Rattle.system_text.specs.declared.frame_lines.NamedEnd.{NamedEnd}

-- a value that passes the test of its range
abbrev pub ranged : {A : Type 0} → Bool → A → Result A SysKind
ranged test x = if test then Ok x else Err NumberOutOfRange

-- a value that is there
abbrev pub or_bad : {A : Type 0} → Option A → Result A SysKind
or_bad None = Err BadLine
or_bad (Some x) = Ok x

-- a line by its form
abbrev pub formed : Option FrameLine → Result FrameLine SysKind
formed None = Err BadLine
formed (Some l) = ranged (are_numbers_in_range l) l

-- A number as it is read: one that is greater than any range counts as the greatest of 32 bits.
abbrev pub capped : ℕ → ℕ
capped n = min n 4294967295

-- the same of a link end
abbrev pub capped_end : EndName → NamedEnd
capped_end name = record { node = capped name.node; end = capped name.end }

abbrev pub is_in_range : NamedEnd → Bool
is_in_range name = nat_le name.node 99 && nat_le name.end 7

abbrev pub end_of : NamedEnd → EndName
end_of name = record { node = name.node; end = name.end }

-- whether all words are numbers
abbrev pub are_numbers : List (List ℕ) → Bool
are_numbers words = list_all (λ (word : List ℕ). is_some (number_of word)) words

-- the number that a word is, if it is a link end's
abbrev pub end_number : List ℕ → Option ℕ
end_number word = at_most 7 (number_of word)

-- a number in front of those of the words after it
abbrev pub in_front : Option ℕ → Result (List ℕ) SysKind → Result (List ℕ) SysKind
in_front None after = Err NumberOutOfRange
in_front (Some n) (Err kind) = Err kind
in_front (Some n) (Ok ns) = Ok (n ∷ ns)

-- the numbers that words are, which are those of link ends, or one is not
unfoldable pub end_numbers : List (List ℕ) → Result (List ℕ) SysKind
end_numbers [] = Ok []
end_numbers (word ∷ words) = in_front (end_number word) (end_numbers words)

abbrev pub GivesEnds : Result (List ℕ) SysKind → Result (ArrayVec ℕ) SysKind → Type 0
GivesEnds numbers (Ok ends) = numbers ≡ Ok ends.items
GivesEnds numbers (Err kind) = numbers ≡ Err kind
