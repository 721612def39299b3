-- The place of a line at which it is faulty, and what may stand there.
use Rattle.std.specs.Prelude.{ℕ, ◌+◌, ◌-◌, Bool, true, false, ◌&&◌, is_none, if◌then◌else◌, Option, Some, None, List, [], ◌∷◌, take, get_or, find}
use Rattle.std.specs.List.{prefix_len}
use Rattle.xs_text.specs.Bytes.{is_allowed, begins_with}
use Rattle.xs_instructions.specs.declared.rows.Part.TheVariants.{Label}
use Rattle.xs_instructions.specs.declared.rows.TheConstants.{ROWS}
use Rattle.xs_instructions.specs.Image.{Symbol, address_of, is_reserved}
use Rattle.source_model.specs.declared.AsmKind.{AsmKind}
use Rattle.source_model.specs.declared.AsmKind.TheVariants.{BadByte, UnknownName, WrongOperands, NumberOutOfRange, LabelTwice, LabelMissing, DirectiveNotAllowed, TooManyInstructions, TooManyBytes}
use Rattle.source_model.specs.declared.layout.Section.{Section}
use Rattle.source_model.specs.declared.layout.Width.TheVariants.{Word}
use Rattle.source_model.specs.Operands.{base_after}
use Rattle.source_model.specs.Statement.{is_name_kind}
use Rattle.explain_model.specs.declared.Want.{Want}
use Rattle.explain_model.specs.declared.Want.TheVariants as want
use Rattle.explain_model.specs.Placed.{Placed, end_of, placed_tokens, placed_labels, placed_statement}
use Rattle.explain_model.specs.Forms.{Spot, spot_of_stop, with_rows, fits_part}
use Rattle.explain_model.specs.Values.{directive_form, directive_stop}
use Rattle.explain_model.specs.Labels.{labels_of, Twice, first_twice}
use Rattle.explain_model.specs.Sections.{section_of}

-- a line of a source: its number in the source, from 1, all lines of the source, and the number that the first of them has in the whole text
pub record SourceLine : Type 0 where
  pub first : ℕ
  pub lines : List (List ℕ)
  pub line : ℕ

-- its number in the whole text
abbrev pub number_of_line : SourceLine → ℕ
number_of_line at = (at.first + at.line) - 1

abbrev pub bytes_of_line : SourceLine → List ℕ
bytes_of_line at = get_or at.lines (at.line - 1) []

abbrev pub lines_before : SourceLine → List (List ℕ)
lines_before at = take (at.line - 1) at.lines

-- the labels of the lines before it, and those of all lines
abbrev pub labels_before : SourceLine → List Symbol
labels_before at = labels_of at.first (lines_before at)

abbrev pub all_labels : SourceLine → List Symbol
all_labels at = labels_of at.first at.lines

-- the first of its labels that is defined already
abbrev pub twice_in : SourceLine → Option Twice
twice_in at = first_twice (number_of_line at) (labels_before at) (placed_labels (placed_tokens (bytes_of_line at)))

abbrev pub statement_in : SourceLine → List Placed
statement_in at = placed_statement (placed_tokens (bytes_of_line at))

-- ---- The place

abbrev pub spot_at : ℕ → List Want → Spot
spot_at at wants = record { at = at; all_fit = false; wants = wants }

abbrev pub place_of_first : List Placed → ℕ
place_of_first [] = 0
place_of_first (p ∷ tokens) = p.at

-- the forms of a statement by its name
abbrev pub named_spot : Placed → List Placed → Spot
named_spot name operands =
    if begins_with 46 name.token.bytes
    then spot_of_stop (directive_stop (end_of name) operands (directive_form name.token.bytes))
    else with_rows ROWS name.token.bytes (end_of name) operands (spot_at (end_of name) [])

-- of a statement in a section
abbrev pub statement_spot : Section → List Placed → Spot
statement_spot section [] = spot_at 0 (want.Statement section ∷ [])
statement_spot section (p ∷ tokens) =
    if is_name_kind p.token.kind then named_spot p tokens else spot_at p.at (want.Statement section ∷ [])

abbrev pub reserved_label : List Placed → Option Placed
reserved_label tokens = find (λ (p : Placed). is_reserved p.token.bytes) (placed_labels tokens)

-- a label that is a reserved name comes before the statement
abbrev pub reserved_or : Option Placed → Spot → Spot
reserved_or None spot = spot
reserved_or (Some p) spot = spot_at p.at (want.FreeName ∷ [])

-- ---- The labels that a statement names

-- a name among what comes after a statement's name, and what may stand there
pub record Use : Type 0 where
  pub label : Placed
  pub want : Want

abbrev pub use_want : Bool → Option Section → Want
use_want true base = want.Value Word
use_want false None = want.Operand Label
use_want false (Some base) = want.Offset base

-- whether a name is none of some labels; where no labels are asked about, any name will do
abbrev pub is_asked : Option (List Symbol) → List ℕ → Bool
is_asked None name = true
is_asked (Some labels) name = is_none (address_of labels name)

-- the first of them, after two other tokens
unfoldable pub first_use : Option (List Symbol) → Bool → List ℕ → List ℕ → List Placed → Option Use
first_use labels of_directive second last [] = None
first_use labels of_directive second last (p ∷ tokens) =
    if fits_part Label p.token && is_asked labels p.token.bytes
    then Some (record { label = p; want = use_want of_directive (base_after second last) })
    else first_use labels of_directive last p.token.bytes tokens

-- the first label that a statement names
abbrev pub use_in : Option (List Symbol) → List Placed → Option Use
use_in labels [] = None
use_in labels (p ∷ tokens) = first_use labels (begins_with 46 p.token.bytes) [] [] tokens

abbrev pub use_spot : Option Use → Spot
use_spot None = spot_at 0 []
use_spot (Some found) = spot_at found.label.at (found.want ∷ [])

-- ---- By the kind of the fault

abbrev pub twice_spot : Option Twice → Spot
twice_spot None = spot_at 0 []
twice_spot (Some twice) = spot_at twice.label.at (want.NewLabel ∷ [])

-- where all tokens fit, the label does not
abbrev pub range_spot : Spot → List Placed → Spot
range_spot spot tokens = if spot.all_fit then use_spot (use_in None tokens) else spot

abbrev pub section_in : SourceLine → Section
section_in at = section_of (lines_before at)

abbrev pub spot_of : AsmKind → SourceLine → Spot
spot_of BadByte at = spot_at (prefix_len is_allowed (bytes_of_line at)) (want.AllowedByte ∷ [])
spot_of UnknownName at = spot_at (place_of_first (statement_in at)) (want.Statement (section_in at) ∷ [])
spot_of WrongOperands at = reserved_or (reserved_label (placed_tokens (bytes_of_line at))) (statement_spot (section_in at) (statement_in at))
spot_of NumberOutOfRange at = range_spot (statement_spot (section_in at) (statement_in at)) (statement_in at)
spot_of LabelTwice at = twice_spot (twice_in at)
spot_of LabelMissing at = use_spot (use_in (Some (all_labels at)) (statement_in at))
spot_of DirectiveNotAllowed at = spot_at (place_of_first (statement_in at)) (want.Statement (section_in at) ∷ [])
spot_of TooManyInstructions at = spot_at (place_of_first (statement_in at)) []
spot_of TooManyBytes at = spot_at (place_of_first (statement_in at)) []
