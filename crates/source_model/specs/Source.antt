-- What a source text stands for: an image, or its first fault.
use Rattle.std.specs.Prelude.{ℕ, ◌+◌, ◌-◌, ◌/◌, ◌%◌, Bool, true, false, ◌||◌, ◌&&◌, not, is_some, is_none, ◌==◌, min, nat_lt, nat_le, if◌then◌else◌, Option, Some, None, option_and_then, option_to_list, List, [], ◌∷◌, ◌++◌, length, map, flat_map, find, replicate}
use Rattle.std.specs.List.{list_any}
use Rattle.xs_text.specs.Lines.{lines_of}
use Rattle.xs_instructions.specs.Image.{ImageRec, Symbol, is_reserved}
use Rattle.xs_instructions.specs.Table.{build}
use Rattle.xs_instructions.specs.declared.rows.Row.{Row}
use Rattle.xs_instructions.specs.declared.instr.Instr.{Instr}
use Rattle.xs_instructions.specs.declared.instr.Instr.TheVariants.{Words}
use Rattle.xs_instructions.specs.declared.instr.WordIns.TheVariants.{Nop}
use Rattle.source_model.specs.declared.AsmKind.{AsmKind}
use Rattle.source_model.specs.declared.AsmKind.TheVariants.{BadByte, UnknownName, WrongOperands, NumberOutOfRange, LabelTwice, LabelMissing, DirectiveNotAllowed, TooManyInstructions, TooManyBytes}
use Rattle.source_model.specs.declared.layout.Section.{Section}
use Rattle.source_model.specs.declared.layout.Section.TheVariants.{Text, Data, Constants}
use Rattle.source_model.specs.declared.layout.Width.{Width}
use Rattle.source_model.specs.declared.layout.Layout.{Layout}
use Rattle.source_model.specs.declared.layout.Place.{Place}
use Rattle.source_model.specs.Each.{all_some}
use Rattle.source_model.specs.Operands.{Amount, Known, Target, Address, Offset}
use Rattle.source_model.specs.Values.{little_endian}
use Rattle.source_model.specs.Statement.{Says, Unknown, Misshapen, Instruction, Values, Zeros, Align, Line, line_of}
use Rattle.source_model.specs.Layout.{Label, place_of, Sofar, nothing_yet, section_length, here, may_stand, padding, define, after_line, whole_of, round_up_to_word, section_start, address_in, bytes_length}

-- amounts, by what all lines say

-- how many words an address stands past a base: none below it, between words or too far
abbrev pub words_past : ℕ → ℕ → Option ℕ
words_past base address =
    if nat_le base address && ((address - base) % 4 == 0) && nat_le ((address - base) / 4) 65535
    then Some ((address - base) / 4)
    else None

-- A place in the code, as an instruction has it. A source with one past 16,384 is refused for its instructions.
abbrev pub target_in : Section → ℕ → Option ℕ
target_in Text offset = Some (min offset 16384)
target_in _ offset = None

-- The values of names. One that no line defines has the value 0, which is in every range.
abbrev pub target_value : Option Place → Option ℕ
target_value None = Some 0
target_value (Some place) = target_in place.section place.offset

-- an address is taken as a word
abbrev pub address_value : Layout → Option Place → Option ℕ
address_value whole None = Some 0
address_value whole (Some place) = Some (address_in whole place % 4294967296)

abbrev pub offset_value : Layout → Section → Option Place → Option ℕ
offset_value whole base None = Some 0
offset_value whole base (Some place) = words_past (section_start whole base) (address_in whole place)

-- the value of an amount, None where it is out of range
abbrev pub amount_value : Sofar → Amount → Option ℕ
amount_value whole (Known value) = value
amount_value whole (Target name) = target_value (place_of whole.labels name)
amount_value whole (Address name) = address_value whole.layout (place_of whole.labels name)
amount_value whole (Offset base name) = offset_value whole.layout base (place_of whole.labels name)

-- the values, None where one is out of range
abbrev pub values_in : Sofar → List Amount → Option (List ℕ)
values_in whole amounts = all_some (amount_value whole) amounts

-- whether no line defines the name
abbrev pub is_missing : Sofar → Amount → Bool
is_missing whole (Known value) = false
is_missing whole (Target name) = is_none (place_of whole.labels name)
is_missing whole (Address name) = is_none (place_of whole.labels name)
is_missing whole (Offset base name) = is_none (place_of whole.labels name)

-- faults of a line

abbrev pub instruction_in : Sofar → Row → List Amount → Option Instr
instruction_in whole row amounts = option_and_then (build row) (values_in whole amounts)

-- whether a label was defined before, by an earlier line or earlier in the line
unfoldable pub defines_twice : Place → List Label → List (List ℕ) → Bool
defines_twice place labels [] = false
defines_twice place labels (name ∷ names) = is_some (place_of labels name) || defines_twice place (define place name labels) names

abbrev pub is_unknown : Says → Bool
is_unknown Unknown = true
is_unknown _ = false

abbrev pub is_misshapen : Says → Bool
is_misshapen Misshapen = true
is_misshapen _ = false

abbrev pub is_out_of_range : Sofar → Says → Bool
is_out_of_range whole (Instruction row amounts) = is_none (instruction_in whole row amounts)
is_out_of_range whole (Values width amounts) = is_none (values_in whole amounts)
is_out_of_range whole (Zeros count) = is_none count
is_out_of_range whole (Align unit) = is_none unit
is_out_of_range whole _ = false

abbrev pub names_missing : Sofar → Says → Bool
names_missing whole (Instruction row amounts) = list_any (is_missing whole) amounts
names_missing whole (Values width amounts) = list_any (is_missing whole) amounts
names_missing whole _ = false

-- by what all lines say, what the lines before say, and the line

abbrev pub has_bad_byte : Sofar → Sofar → Line → Bool
has_bad_byte whole before line = line.bad_byte

abbrev pub has_label_twice : Sofar → Sofar → Line → Bool
has_label_twice whole before line = defines_twice (here before.layout) before.labels line.labels

abbrev pub is_not_allowed : Sofar → Sofar → Line → Bool
is_not_allowed whole before line = not (may_stand before.layout.section line.statement.home)

abbrev pub has_unknown_name : Sofar → Sofar → Line → Bool
has_unknown_name whole before line = is_unknown line.statement.says

abbrev pub has_wrong_operands : Sofar → Sofar → Line → Bool
has_wrong_operands whole before line = list_any is_reserved line.labels || is_misshapen line.statement.says

abbrev pub has_number_out_of_range : Sofar → Sofar → Line → Bool
has_number_out_of_range whole before line = is_out_of_range whole line.statement.says

abbrev pub has_label_missing : Sofar → Sofar → Line → Bool
has_label_missing whole before line = names_missing whole line.statement.says

abbrev pub has_too_many_instructions : Sofar → Sofar → Line → Bool
has_too_many_instructions whole before line = nat_lt 16384 (after_line before line).layout.instructions

abbrev pub has_too_many_bytes : Sofar → Sofar → Line → Bool
has_too_many_bytes whole before line = nat_lt 65536 (bytes_length (after_line before line).layout.data_bytes (after_line before line).layout.constant_bytes)

-- the test of each kind
abbrev pub has_kind : AsmKind → Sofar → Sofar → Line → Bool
has_kind BadByte = has_bad_byte
has_kind UnknownName = has_unknown_name
has_kind WrongOperands = has_wrong_operands
has_kind NumberOutOfRange = has_number_out_of_range
has_kind LabelTwice = has_label_twice
has_kind LabelMissing = has_label_missing
has_kind DirectiveNotAllowed = is_not_allowed
has_kind TooManyInstructions = has_too_many_instructions
has_kind TooManyBytes = has_too_many_bytes

-- the order that decides within a line
abbrev pub order : List AsmKind
order =
    BadByte ∷ LabelTwice ∷ DirectiveNotAllowed ∷ UnknownName ∷ WrongOperands ∷ NumberOutOfRange ∷ LabelMissing
    ∷ TooManyInstructions ∷ TooManyBytes ∷ []

-- the first kind of which a line has a fault
abbrev pub fault_of_line : Sofar → Sofar → Line → Option AsmKind
fault_of_line whole before line = find (λ kind. has_kind kind whole before line) order

abbrev pub or_fault : ℕ → Option AsmKind → Option (ℕ × AsmKind) → Option (ℕ × AsmKind)
or_fault number (Some kind) after = Some (number, kind)
or_fault number None after = after

-- the first faulty line and its fault, the first of the lines having the number
unfoldable pub first_fault : Sofar → Sofar → ℕ → List Line → Option (ℕ × AsmKind)
first_fault whole before number [] = None
first_fault whole before number (line ∷ lines) =
    or_fault number (fault_of_line whole before line) (first_fault whole (after_line before line) (number + 1) lines)

-- what a source without faults stands for

-- the code of a statement in a section of some length
abbrev pub code_of : Sofar → ℕ → Says → List Instr
code_of whole long (Instruction row amounts) = option_to_list (instruction_in whole row amounts)
code_of whole long (Align (Some unit)) = replicate (padding long unit) (Words Nop)
code_of whole long _ = []

abbrev pub bytes_of_values : Width → Option (List ℕ) → List ℕ
bytes_of_values width None = []
bytes_of_values width (Some values) = flat_map (little_endian width) values

-- the bytes of a statement in a section of some length
abbrev pub bytes_of : Sofar → ℕ → Says → List ℕ
bytes_of whole long (Values width amounts) = bytes_of_values width (values_in whole amounts)
bytes_of whole long (Zeros (Some count)) = replicate count 0
bytes_of whole long (Align (Some unit)) = replicate (padding long unit) 0
bytes_of whole long _ = []

abbrev pub same_section : Section → Section → Bool
same_section Text Text = true
same_section Data Data = true
same_section Constants Constants = true
same_section _ _ = false

-- the code of a line after some lines
abbrev pub code_of_line : Sofar → Sofar → Line → List Instr
code_of_line whole before line =
    if same_section Text before.layout.section then code_of whole before.layout.instructions line.statement.says else []

unfoldable pub code_of_lines : Sofar → Sofar → List Line → List Instr
code_of_lines whole before [] = []
code_of_lines whole before (line ∷ lines) = code_of_line whole before line ++ code_of_lines whole (after_line before line) lines

-- the bytes of a line for a section, after some lines
abbrev pub bytes_of_line : Section → Sofar → Sofar → Line → List ℕ
bytes_of_line section whole before line =
    if same_section section before.layout.section then bytes_of whole (section_length before.layout section) line.statement.says else []

unfoldable pub bytes_of_lines : Section → Sofar → Sofar → List Line → List ℕ
bytes_of_lines section whole before [] = []
bytes_of_lines section whole before (line ∷ lines) =
    bytes_of_line section whole before line ++ bytes_of_lines section whole (after_line before line) lines

-- the bytes of both sections: zeros come before the first constant, up to a word
abbrev pub bytes_together : List ℕ → List ℕ → List ℕ
bytes_together bytes [] = bytes
bytes_together bytes (b ∷ constants) = bytes ++ (replicate (round_up_to_word (length bytes) - length bytes) 0 ++ (b ∷ constants))

abbrev pub symbol_of : Layout → Label → Symbol
symbol_of whole label = (label.0, address_in whole label.1)

abbrev pub image_of : Sofar → List Line → ImageRec
image_of whole lines = record {
  code = code_of_lines whole nothing_yet lines;
  bytes = bytes_together (bytes_of_lines Data whole nothing_yet lines) (bytes_of_lines Constants whole nothing_yet lines);
  cp_at = section_start whole.layout Constants;
  symbols = map (symbol_of whole.layout) whole.labels;
}

pub data Assembled : Type 0 where
  Image : (image : ImageRec) → Assembled
  -- the number of the line, from 1
  Fault : (line : ℕ) (kind : AsmKind) → Assembled

abbrev pub outcome : Option (ℕ × AsmKind) → ImageRec → Assembled
outcome None image = Image image
outcome (Some fault) image = Fault fault.0 fault.1

abbrev pub assembled_from : List Line → Assembled
assembled_from lines = outcome (first_fault (whole_of lines) nothing_yet 1 lines) (image_of (whole_of lines) lines)

abbrev pub assembled_lines : List (List ℕ) → Assembled
assembled_lines ls = assembled_from (map line_of ls)

abbrev pub assembled : List ℕ → Assembled
assembled text = assembled_lines (lines_of text)
