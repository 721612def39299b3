-- A row's form with its operands filled in, one after another.
use Rattle.std.specs.Prelude.{List, [], ◌∷◌, get_or, drop, if◌then◌else◌}
use Rattle.xs_instructions.specs.declared.rows.Part.{Part}
use Rattle.xs_instructions.specs.declared.rows.Part.TheVariants.{Register, Word}
use Rattle.xs_instructions.specs.Words.{fixed_text}
use Rattle.xs_instructions.specs.Instr.{takes_value}
use Rattle.xs_instructions.specs.Spelling.{Spelled, Text, Reg, Num}

-- what stands at a part, where these operands are to be filled in from there on
abbrev pub filled_at : Part → List Spelled → Spelled
filled_at (Register n) operands = Reg n
filled_at (Word n) operands = Text (fixed_text n)
filled_at _ operands = get_or operands 0 (Num 0)

-- the operands that are left after a part
abbrev pub operands_left : Part → List Spelled → List Spelled
operands_left p operands = if takes_value p then drop 1 operands else operands

abbrev pub filled : List Part → List Spelled → List Spelled
filled [] operands = []
filled (p ∷ parts) operands = filled_at p operands ∷ filled parts (operands_left p operands)
