use Rattle.std.proofs.Common.{◌≡◌, drop}
use Rattle.xs_instructions.specs.Find.{first_row}
use Rattle.xs_instructions.proofs.look_up.first_row.Given as goal

-- the line is of none of the rows before
abbrev pub invariant-loop-row : goal.invariant-loop-row
invariant-loop-row l = first_row l.rows l.name l.shapes ≡ first_row (drop l.row-index l.rows) l.name l.shapes
