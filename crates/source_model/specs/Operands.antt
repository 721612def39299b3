-- Operands of an instruction, token by token: the shape of each, and the amount that it stands for.
use Rattle.std.specs.Prelude.{ℕ, if◌then◌else◌, Option, Some, None, option_map, List, [], ◌∷◌, map, codes}
use Rattle.xs_text.specs.Tokens.{Token}
use Rattle.xs_text.specs.Numbers.{source_number_of, at_most}
use Rattle.xs_text.specs.declared.token_reader.TokKind.{TokKind}
use Rattle.xs_text.specs.declared.token_reader.TokKind.TheVariants.{Name, Number, Mark, Stray}
use Rattle.xs_instructions.specs.Image.{same_name, is_reserved}
use Rattle.xs_instructions.specs.Table.{fixed, register_number, parts_of, values_among}
use Rattle.xs_instructions.specs.declared.rows.Row.{Row}
use Rattle.xs_instructions.specs.declared.shape.Shape.{Shape}
use Rattle.xs_instructions.specs.declared.shape.Shape.TheVariants as shape
use Rattle.source_model.specs.Each.{all_some}
use Rattle.source_model.specs.declared.layout.Section.{Section}
use Rattle.source_model.specs.declared.layout.Section.TheVariants.{Data, Constants}

-- what a value is written as: a number, None being one past every range, or a name
pub data Amount : Type 0 where
  Known : (value : Option ℕ) → Amount
  -- the place of a code label
  Target : (name : List ℕ) → Amount
  -- the address of a label
  Address : (name : List ℕ) → Amount
  -- how many words a label stands past the base, the start of a section
  Offset : (base : Section) (name : List ℕ) → Amount

-- a token, and the section that a name there counts from: it has one directly after `dp [` and `cp [`
pub record Operand : Type 0 where
  pub base : Option Section
  pub token : Token

-- the section that a base register stands for
abbrev pub base_named : List ℕ → Option Section
base_named name =
    if same_name (codes "dp") name then Some Data
    else (if same_name (codes "cp") name then Some Constants else None)

-- the same after two tokens
abbrev pub base_after : List ℕ → List ℕ → Option Section
base_after second last = if same_name (codes "[") last then base_named second else None

-- the tokens as operands, after two other tokens
unfoldable pub operands_after : List ℕ → List ℕ → List Token → List Operand
operands_after second last [] = []
operands_after second last (t ∷ rest) =
    record { base = base_after second last; token = t } ∷ operands_after last t.bytes rest

abbrev pub operands_of : List Token → List Operand
operands_of tokens = operands_after [] [] tokens

abbrev pub or_shape : Option Shape → Option Shape → Option Shape
or_shape (Some s) other = Some s
or_shape None other = other

abbrev pub label_shape : Option Section → Shape
label_shape None = shape.Label
label_shape (Some base) = shape.Num

-- a name that is no register and no word of a row is a label, if it is not reserved
abbrev pub name_shape : Option Section → List ℕ → Option Shape
name_shape base name =
    or_shape (option_map shape.Reg (register_number name))
    (or_shape (option_map shape.Word (fixed name)) (if is_reserved name then None else Some (label_shape base)))

abbrev pub shape_by_kind : TokKind → Option Section → List ℕ → Option Shape
shape_by_kind Name base bytes = name_shape base bytes
shape_by_kind Number base bytes = Some shape.Num
shape_by_kind Mark base bytes = option_map shape.Word (fixed bytes)
shape_by_kind Stray base bytes = None

-- the shape of an operand, if it has one
abbrev pub shape_of : Operand → Option Shape
shape_of operand = shape_by_kind operand.token.kind operand.base operand.token.bytes

-- the shapes of all operands, if each has one
abbrev pub shapes_of : List Operand → Option (List Shape)
shapes_of operands = all_some shape_of operands

abbrev pub label_amount : Option Section → List ℕ → Amount
label_amount None name = Target name
label_amount (Some base) name = Offset base name

abbrev pub name_amount : Option ℕ → Option Section → List ℕ → Amount
name_amount (Some register) base name = Known (Some register)
name_amount None base name = label_amount base name

-- a number of more than 32 bits is past every range
abbrev pub number_amount : List ℕ → Amount
number_amount digits = Known (at_most 4294967295 (source_number_of digits))

-- the amount of a register, a number or a name; no row takes one of a mark
abbrev pub amount_by_kind : TokKind → Option Section → List ℕ → Amount
amount_by_kind Name base bytes = name_amount (register_number bytes) base bytes
amount_by_kind Number base bytes = number_amount bytes
amount_by_kind Mark base bytes = Known None
amount_by_kind Stray base bytes = Known None

abbrev pub amount_of : Operand → Amount
amount_of operand = amount_by_kind operand.token.kind operand.base operand.token.bytes

-- the amounts of the operands that are values of the row
abbrev pub amounts_of : Row → List Operand → List Amount
amounts_of row operands = values_among (parts_of row) (map amount_of operands)
