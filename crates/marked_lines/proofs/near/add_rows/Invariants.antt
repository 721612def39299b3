use Rattle.std.proofs.Common.{◌≡◌, map, drop}
use Rattle.xs_instructions.specs.Rows.{name_of}
use Rattle.explain_model.specs.Near.{near_from}
use Rattle.marked_lines.specs.Near.{near_of_kept}
use Rattle.marked_lines.proofs.near.add_rows.Given as goal

abbrev pub invariant-loop-row : goal.invariant-loop-row
invariant-loop-row l =
    near_from l.name (map near_of_kept l.found.items) (map name_of (drop l.row-index l.rows)) ≡ near_from l.name (map near_of_kept l.initial.found.items) (map name_of l.rows)
