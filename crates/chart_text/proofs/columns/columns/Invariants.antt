use Rattle.std.proofs.Common.{◌≡◌, ◌+◌}
use Rattle.chart_model.specs.Columns.{columns_from}
use Rattle.chart_text.proofs.columns.columns.Given as goal

abbrev pub invariant-loop : goal.invariant-loop
invariant-loop l = record {
  plan : l.run.plan ≡ l.plan;
  passed : l.run.now ≡ l.initial.run.now + l.counter;
  columns : l.columns.items ≡ columns_from l.plan l.initial.run.now l.counter;
}
