use Rattle.std.proofs.Common.{◌≡◌, ◌++◌, take}
use Rattle.chart_model.specs.Chart.{row_of}
use Rattle.chart_text.proofs.rows.append_chars.Given as goal

abbrev pub invariant-loop-column : goal.invariant-loop-column
invariant-loop-column l = l.out ≡ l.initial.out ++ row_of (take l.column-index l.columns) l.r
