use Rattle.std.proofs.Common.{◌≡◌, ◌++◌, drop}
use Rattle.trace_model.specs.Trace.{by_position}
use Rattle.chart_model.specs.Columns.{node_column}
use Rattle.chart_text.proofs.columns.column.Given as goal

abbrev pub invariant-loop-n : goal.invariant-loop-n
invariant-loop-n l =
    l.out ++ by_position (node_column l.run.plan l.slot) l.n (drop l.n l.nodes) ≡ by_position (node_column l.run.plan l.slot) 0 l.nodes
