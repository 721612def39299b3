-- One line more on a faulty line: what is meant, of names above all.
use Rattle.std.specs.Prelude.{ℕ, ◌+◌, ◌-◌, ◌/◌, ◌%◌, nat_lt, if◌then◌else◌, Option, Some, None, List, [], ◌∷◌, ◌++◌, take, map, slice_index, codes, decimal}
use Rattle.std.specs.List.{prefix_len}
use Rattle.xs_text.specs.Bytes.{is_allowed}
use Rattle.xs_instructions.specs.declared.rows.TheConstants.{ROWS}
use Rattle.xs_instructions.specs.Image.{Symbol, address_of}
use Rattle.xs_instructions.specs.Rows.{name_of}
use Rattle.source_model.specs.declared.AsmKind.{AsmKind}
use Rattle.source_model.specs.declared.AsmKind.TheVariants.{BadByte, UnknownName, WrongOperands, NumberOutOfRange, LabelTwice, LabelMissing, DirectiveNotAllowed, TooManyInstructions, TooManyBytes}
use Rattle.source_model.specs.declared.layout.Home.{Home}
use Rattle.source_model.specs.declared.layout.Home.TheVariants.{Anywhere, InText, InBytes, BeginsData, BeginsConstants, Nowhere}
use Rattle.source_model.specs.declared.layout.Section.{Section}
use Rattle.source_model.specs.declared.layout.Section.TheVariants.{Text, Data, Constants}
use Rattle.explain_model.specs.Placed.{Placed, placed_tokens}
use Rattle.explain_model.specs.Values.{directive_names}
use Rattle.explain_model.specs.Near.{near_from, near_line}
use Rattle.explain_model.specs.Labels.{names_of, Twice}
use Rattle.explain_model.specs.Sections.{section_of, home_of_line}
use Rattle.explain_model.specs.Spots.{SourceLine, bytes_of_line, all_labels, twice_in, statement_in, statement_spot, section_in, reserved_label, Use, use_in}

abbrev pub hex_digit : ℕ → ℕ
hex_digit d = if nat_lt d 10 then 48 + d else 87 + d

-- a byte as `0x` and two digits
abbrev pub hex_byte : ℕ → List ℕ
hex_byte b = codes "0x" ++ (hex_digit (b / 16 % 16) ∷ hex_digit (b % 16) ∷ [])

abbrev pub bad_byte_line : ℕ → List ℕ
bad_byte_line b = codes "byte " ++ (hex_byte b ++ codes " may not stand in a text, nor in a comment\n")

-- the name with which a statement begins
abbrev pub statement_name : List Placed → List ℕ
statement_name [] = []
statement_name (p ∷ tokens) = p.token.bytes

-- the names of the instructions that are near a name
unfoldable pub unknown_line : List ℕ → List ℕ
unknown_line name = name ++ (codes " is no instruction" ++ near_line (near_from name [] (map name_of ROWS)))

-- where a statement stands that may not stand where it does
abbrev pub home_line : List ℕ → Home → List ℕ
home_line name Anywhere = []
home_line name InText = codes "instructions, .text and .globl stand before .data and .cp\n"
home_line name InBytes = name ++ codes " stands in .data and in .cp\n"
home_line name BeginsData = name ++ codes " stands once, before .cp\n"
home_line name BeginsConstants = name ++ codes " stands once\n"
home_line name Nowhere = name ++ (codes " is no directive" ++ near_line (near_from name [] directive_names))

abbrev pub reserved_line : Option Placed → List ℕ
reserved_line None = []
reserved_line (Some p) = p.token.bytes ++ codes " is kept by the language: no label has it\n"

abbrev pub section_text : Section → List ℕ
section_text Text = codes "the code"
section_text Data = codes ".data"
section_text Constants = codes ".cp"

-- the section of a label, where a line with this number defines it
abbrev pub section_of_label : SourceLine → Option ℕ → List ℕ
section_of_label at None = []
section_of_label at (Some line) = section_text (section_of (take (line - at.first) at.lines))

-- a label that a line with this number defines
unfoldable pub section_line : SourceLine → List ℕ → Option ℕ → List ℕ
section_line at name line = name ++ (codes " is a label of " ++ (section_of_label at line ++ codes "\n"))

abbrev pub range_line : SourceLine → Option Use → List ℕ
range_line at None = []
range_line at (Some found) = section_line at found.label.token.bytes (address_of (all_labels at) found.label.token.bytes)

abbrev pub twice_line : Option Twice → List ℕ
twice_line None = []
twice_line (Some twice) = twice.label.token.bytes ++ (codes " is a label of line " ++ (decimal twice.line ++ codes " already\n"))

abbrev pub missing_line : List Symbol → Option Use → List ℕ
missing_line labels None = []
missing_line labels (Some found) =
    codes "no line of this source has the label " ++ (found.label.token.bytes ++ near_line (near_from found.label.token.bytes [] (names_of labels)))

abbrev pub meant_line : AsmKind → SourceLine → List ℕ
meant_line BadByte at = bad_byte_line (slice_index (bytes_of_line at) (prefix_len is_allowed (bytes_of_line at)))
meant_line UnknownName at = unknown_line (statement_name (statement_in at))
meant_line WrongOperands at = reserved_line (reserved_label (placed_tokens (bytes_of_line at)))
meant_line NumberOutOfRange at =
    if (statement_spot (section_in at) (statement_in at)).all_fit then range_line at (use_in None (statement_in at)) else []
meant_line LabelTwice at = twice_line (twice_in at)
meant_line LabelMissing at = missing_line (all_labels at) (use_in (Some (all_labels at)) (statement_in at))
meant_line DirectiveNotAllowed at = home_line (statement_name (statement_in at)) (home_of_line (bytes_of_line at))
meant_line TooManyInstructions at = codes "with this line there are more than 16384 instructions\n"
meant_line TooManyBytes at = codes "with this line there are more than 65536 bytes of data and constants\n"
