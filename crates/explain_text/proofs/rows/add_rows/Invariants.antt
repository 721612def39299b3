use Rattle.std.proofs.Common.{◌≡◌, ◌≤◌, length, drop}
use Rattle.explain_model.specs.Forms.{with_rows}
use Rattle.placed_tokens.specs.Tokens.{placed_left}
use Rattle.marked_lines.specs.Stops.{spot_of_kept}
use Rattle.explain_text.proofs.rows.add_rows.Given as goal

abbrev pub invariant-loop-row : goal.invariant-loop-row
invariant-loop-row l = record {
  spot : with_rows (drop l.row-index l.rows) l.name l.behind (placed_left l.line l.behind) (spot_of_kept l.spot) ≡ with_rows l.rows l.name l.behind (placed_left l.line l.behind) (spot_of_kept l.initial.spot);
  within : l.spot.at ≤ length l.line;
}
