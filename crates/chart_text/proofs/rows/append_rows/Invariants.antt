use Rattle.std.proofs.Common.{◌≡◌, ◌++◌, drop}
use Rattle.trace_model.specs.Trace.{by_position}
use Rattle.chart_model.specs.declared.TheConstants.{ROWS}
use Rattle.chart_model.specs.Chart.{node_rows}
use Rattle.chart_text.proofs.rows.append_rows.Given as goal

abbrev pub invariant-loop-n : goal.invariant-loop-n
invariant-loop-n l =
    l.out ++ by_position (λ n node. node_rows l.columns n node ROWS) l.n (drop l.n l.nodes)
    ≡ l.initial.out ++ by_position (λ n node. node_rows l.columns n node ROWS) 0 l.nodes
