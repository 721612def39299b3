use Rattle.std.proofs.Common.{◌≡◌, drop}
use Rattle.std.specs.List.{list_any}
use Rattle.xs_instructions.specs.Words.{same_name}
use Rattle.xs_instructions.specs.Rows.{name_of}
use Rattle.xs_instructions.proofs.look_up.some_row_has.Given as goal

-- none of the rows before has the name
abbrev pub invariant-loop-row : goal.invariant-loop-row
invariant-loop-row l = list_any (λ r. same_name (name_of r) l.name) l.rows ≡ list_any (λ r. same_name (name_of r) l.name) (drop l.row-index l.rows)
