-- The rows on words in parts, each a stretch of the table.
use Rattle.std.specs.Prelude.{Bool, nat_lt}
use Rattle.xs_instructions.specs.declared.rows.Row.{Row}
use Rattle.xs_instructions.specs.declared.instr.WordIns.{WordIns}
use Rattle.xs_instructions.specs.Operands.{row_of_words}
use Rattle.xs_instructions.specs.Rows.{row_number}

-- whether a row stands after this one in the table
abbrev pub stands_after : Row → WordIns → Bool
stands_after row ins = nat_lt (row_number row) (row_number (row_of_words ins))
