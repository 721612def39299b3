use Rattle.std.proofs.Common.{◌≡◌, drop}
use Rattle.chart_model.specs.Chart.{is_blank, row_of}
use Rattle.chart_text.proofs.rows.is_blank.Given as goal

abbrev pub invariant-loop-column : goal.invariant-loop-column
invariant-loop-column l = is_blank l.blank (row_of (drop l.column-index l.columns) l.r) ≡ is_blank l.blank (row_of l.columns l.r)
