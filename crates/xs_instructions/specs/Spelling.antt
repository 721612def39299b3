-- How an instruction is written: the name of its row, and its form with the values filled in.
use Rattle.std.specs.Prelude.{ℕ, if◌then◌else◌, List, [], ◌∷◌, drop}
use Rattle.xs_instructions.specs.declared.instr.Instr.{Instr}
use Rattle.xs_instructions.specs.declared.rows.Part.{Part}
use Rattle.xs_instructions.specs.declared.rows.Part.TheVariants.{Common, AnyRegister, Register, Small, Width, Short, Exactly, Label, Word}
use Rattle.xs_instructions.specs.declared.shape.Shape.{Shape}
use Rattle.xs_instructions.specs.declared.shape.Shape.TheVariants as shape
use Rattle.xs_instructions.specs.declared.shape.Piece.{Piece}
use Rattle.xs_instructions.specs.declared.shape.Piece.TheVariants as piece
use Rattle.xs_instructions.specs.Words.{fixed_text}
use Rattle.xs_instructions.specs.Rows.{name_of, parts_of}
use Rattle.xs_instructions.specs.Operands.{row_of, values_of, at}
use Rattle.xs_instructions.specs.Instr.{takes_value}

-- a piece of an instruction's text
pub data Spelled : Type 0 where
  Text : (bytes : List ℕ) → Spelled
  Reg : (n : ℕ) → Spelled
  Num : (n : ℕ) → Spelled
  -- the place of a label
  Place : (n : ℕ) → Spelled

-- what stands at a part, where these values are to be written from there on
abbrev pub spelled_at : Part → List ℕ → Spelled
spelled_at Common values = Reg (at values 0)
spelled_at AnyRegister values = Reg (at values 0)
spelled_at (Register n) values = Reg n
spelled_at Small values = Num (at values 0)
spelled_at Width values = Num (at values 0)
spelled_at Short values = Num (at values 0)
spelled_at (Exactly n) values = Num (at values 0)
spelled_at Label values = Place (at values 0)
spelled_at (Word n) values = Text (fixed_text n)

-- the values that are to be written after a part
abbrev pub values_after : Part → List ℕ → List ℕ
values_after p values = if takes_value p then drop 1 values else values

-- the parts with the values filled in
abbrev pub spelled : List Part → List ℕ → List Spelled
spelled [] values = []
spelled (p ∷ parts) values = spelled_at p values ∷ spelled parts (values_after p values)

-- the name of the row, and then what stands at each place of its form
abbrev pub spelling : Instr → List Spelled
spelling ins = Text (name_of (row_of ins)) ∷ spelled (parts_of (row_of ins)) (values_of ins)

-- the shape of what stands at a part
abbrev pub shape_at : Part → List ℕ → Shape
shape_at Common values = shape.Reg (at values 0)
shape_at AnyRegister values = shape.Reg (at values 0)
shape_at (Register n) values = shape.Reg n
shape_at Small values = shape.Num
shape_at Width values = shape.Num
shape_at Short values = shape.Num
shape_at (Exactly n) values = shape.Num
shape_at Label values = shape.Label
shape_at (Word n) values = shape.Word n

-- the shapes of the parts with the values filled in
abbrev pub shapes : List Part → List ℕ → List Shape
shapes [] values = []
shapes (p ∷ parts) values = shape_at p values ∷ shapes parts (values_after p values)

-- a piece as it is spelled
abbrev pub spelled_piece : Piece → Spelled
spelled_piece (piece.Word text) = Text text.now
spelled_piece (piece.Reg n) = Reg n
spelled_piece (piece.Num n) = Num n
spelled_piece (piece.Place n) = Place n
