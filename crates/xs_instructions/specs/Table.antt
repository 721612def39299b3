-- The instruction table as a whole: its rows, how a line finds its row, what a row makes of values, and how an
-- instruction is written.
pub use Rattle.xs_instructions.specs.Words.{same_name, register_number, fixed, fixed_text}
pub use Rattle.xs_instructions.specs.Rows.{name_of, parts_of}
pub use Rattle.xs_instructions.specs.Operands.{row_of, values_of, made}
pub use Rattle.xs_instructions.specs.Instr.{InRange, label_of, takes_value, value_parts}
pub use Rattle.xs_instructions.specs.Find.{find, known, build, takes_value_at, values_among}
pub use Rattle.xs_instructions.specs.Spelling.{Spelled, Text, Reg, Num, Place, spelling, spelled, shapes, spelled_piece}
