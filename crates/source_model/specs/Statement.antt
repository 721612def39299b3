-- One line of a source by itself: its labels, and where its statement may stand and what it says.
use Rattle.std.specs.Prelude.{ℕ, Bool, true, false, ◌&&◌, not, ◌==◌, if◌then◌else◌, Option, Some, None, option_and_then, List, [], ◌∷◌, codes}
use Rattle.xs_text.specs.Bytes.{all_allowed, begins_with}
use Rattle.xs_text.specs.Tokens.{Token, tokens_of}
use Rattle.xs_text.specs.Numbers.{source_number_of, at_most}
use Rattle.xs_text.specs.declared.token_reader.TokKind.{TokKind}
use Rattle.xs_text.specs.declared.token_reader.TokKind.TheVariants.{Name, Number}
use Rattle.xs_instructions.specs.Image.{same_name}
use Rattle.xs_instructions.specs.Table.{find, known}
use Rattle.xs_instructions.specs.declared.rows.Row.{Row}
use Rattle.source_model.specs.declared.layout.Home.{Home}
use Rattle.source_model.specs.declared.layout.Home.TheVariants.{Anywhere, InText, InBytes, BeginsData, BeginsConstants, Nowhere}
use Rattle.source_model.specs.declared.layout.Width.{Width}
use Rattle.source_model.specs.declared.layout.Width.TheVariants.{Byte, Short, Word}
use Rattle.source_model.specs.Operands.{Amount, Operand, operands_of, shapes_of, amounts_of}
use Rattle.source_model.specs.Values.{listed_values}

-- what a statement says
pub data Says : Type 0 where
  -- nothing that adds to a section
  NoEffect : Says
  -- an instruction whose name no row has
  Unknown : Says
  Misshapen : Says
  Instruction : (row : Row) (amounts : List Amount) → Says
  Values : (width : Width) (amounts : List Amount) → Says
  -- so many zero bytes; None is a number out of range, here and below
  Zeros : (count : Option ℕ) → Says
  -- up to a multiple of the number
  Align : (unit : Option ℕ) → Says

pub record Statement : Type 0 where
  pub home : Home
  pub says : Says

abbrev pub is_name_kind : TokKind → Bool
is_name_kind Name = true
is_name_kind _ = false

abbrev pub is_number_kind : TokKind → Bool
is_number_kind Number = true
is_number_kind _ = false

abbrev pub is_nothing : List Token → Bool
is_nothing [] = true
is_nothing (t ∷ rest) = false

abbrev pub is_lone_name : List Token → Bool
is_lone_name [] = false
is_lone_name (t ∷ rest) = is_name_kind t.kind && is_nothing rest

-- the digits of a number that stands alone
abbrev pub lone_number : List Token → Option (List ℕ)
lone_number [] = None
lone_number (t ∷ rest) = if is_number_kind t.kind && is_nothing rest then Some t.bytes else None

-- a directive without effect, if it has its shape
abbrev pub shaped : Bool → Says
shaped true = NoEffect
shaped false = Misshapen

-- at most 65,536
abbrev pub zeros : Option (List ℕ) → Says
zeros None = Misshapen
zeros (Some digits) = Zeros (at_most 65536 (source_number_of digits))

abbrev pub not_zero : ℕ → Option ℕ
not_zero n = if n == 0 then None else Some n

-- 1 to 1,024
abbrev pub aligned : Option (List ℕ) → Says
aligned None = Misshapen
aligned (Some digits) = Align (option_and_then not_zero (at_most 1024 (source_number_of digits)))

abbrev pub valued : Width → Option (List Amount) → Says
valued width None = Misshapen
valued width (Some amounts) = Values width amounts

-- the directives of bytes
abbrev pub bytes_directive : List ℕ → List Token → Statement
bytes_directive name rest =
    if same_name (codes ".word") name then record { home = InBytes; says = valued Word (listed_values Word rest) }
    else (if same_name (codes ".short") name then record { home = InBytes; says = valued Short (listed_values Short rest) }
    else (if same_name (codes ".byte") name then record { home = InBytes; says = valued Byte (listed_values Byte rest) }
    else (if same_name (codes ".space") name then record { home = InBytes; says = zeros (lone_number rest) }
    else record { home = Nowhere; says = NoEffect })))

abbrev pub directive : List ℕ → List Token → Statement
directive name rest =
    if same_name (codes ".text") name then record { home = InText; says = shaped (is_nothing rest) }
    else (if same_name (codes ".globl") name then record { home = InText; says = shaped (is_lone_name rest) }
    else (if same_name (codes ".align") name then record { home = Anywhere; says = aligned (lone_number rest) }
    else (if same_name (codes ".data") name then record { home = BeginsData; says = shaped (is_nothing rest) }
    else (if same_name (codes ".cp") name then record { home = BeginsConstants; says = shaped (is_nothing rest) }
    else bytes_directive name rest))))

-- the instruction of the row that is found, if one is
abbrev pub of_row : List Operand → Option Row → Says
of_row operands None = Misshapen
of_row operands (Some row) = Instruction row (amounts_of row operands)

abbrev pub instruction : List ℕ → List Operand → Says
instruction name operands =
    if known name then of_row operands (option_and_then (find name) (shapes_of operands)) else Unknown

-- what comes after the labels
abbrev pub statement : List Token → Statement
statement [] = record { home = Anywhere; says = NoEffect }
statement (t ∷ rest) =
    if not (is_name_kind t.kind) then record { home = Anywhere; says = Misshapen }
    else (if begins_with 46 t.bytes then directive t.bytes rest
    else record { home = InText; says = instruction t.bytes (operands_of rest) })

-- whether a name and a colon stand at the front
abbrev pub begins_label : Token → Token → Bool
begins_label t c = is_name_kind t.kind && same_name (codes ":") c.bytes

-- the labels at the front
unfoldable pub labels_first : List Token → List (List ℕ)
labels_first [] = []
labels_first (t ∷ []) = []
labels_first (t ∷ c ∷ rest) = if begins_label t c then t.bytes ∷ labels_first rest else []

-- the tokens after them
unfoldable pub after_labels : List Token → List Token
after_labels [] = []
after_labels (t ∷ []) = t ∷ []
after_labels (t ∷ c ∷ rest) = if begins_label t c then after_labels rest else t ∷ c ∷ rest

pub record Line : Type 0 where
  pub bad_byte : Bool
  -- reserved names too
  pub labels : List (List ℕ)
  pub statement : Statement

abbrev pub line_of : List ℕ → Line
line_of bytes =
    record { bad_byte = not (all_allowed bytes); labels = labels_first (tokens_of bytes); statement = statement (after_labels (tokens_of bytes)) }
