use Rattle.std.proofs.Common.{◌≡◌, ◌++◌}
use Rattle.chart_model.specs.Chart.{node_rows}
use Rattle.chart_text.proofs.rows.append_node.Given as goal

abbrev pub invariant-loop-i : goal.invariant-loop-i
invariant-loop-i l = l.out ≡ l.initial.out ++ node_rows l.columns l.n l.node l.i
