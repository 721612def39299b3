-- What the parts of a line stand for as they are read.
use Rattle.std.specs.Prelude.{ℕ, ◌≡◌, Option, Some, None, List, option_and_then}
use Rattle.xs_text.specs.Tokens.{Token}
use Rattle.xs_instructions.specs.declared.shape.Shape.{Shape}
use Rattle.xs_instructions.specs.Table.{find}
use Rattle.source_model.specs.Operands as model
use Rattle.source_model.specs.Operands.{Known, Target, Address, Offset, shapes_of}
use Rattle.xs_assembler.specs.declared.tokens.ReadToken.{ReadToken}
use Rattle.xs_assembler.specs.declared.operands.Operand.{Operand}
use Rattle.xs_assembler.specs.declared.amount.Amount.{Amount}
use Rattle.xs_assembler.specs.declared.amount.Amount.TheVariants as read

abbrev pub read_token : ReadToken → Token
read_token piece = record { kind = piece.kind; bytes = piece.bytes.now }

abbrev pub operand_of : Operand → model.Operand
operand_of operand = record { base = operand.base; token = read_token operand.piece }

abbrev pub read_amount : Amount → model.Amount
read_amount (read.Known value) = Known value
read_amount (read.Target name) = Target name.now
read_amount (read.Address name) = Address name.now
read_amount (read.Offset base name) = Offset base name.now

-- The operands have these shapes, or no row has theirs.
abbrev pub HasShapes : List model.Operand → Option (List Shape) → Type 0
HasShapes operands None = (name : List ℕ) → option_and_then (find name) (shapes_of operands) ≡ None
HasShapes operands (Some shapes) = shapes_of operands ≡ Some shapes
