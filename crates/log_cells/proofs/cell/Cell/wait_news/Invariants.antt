use Rattle.std.proofs.Common.{◌≡◌, ◌≤◌}
use Rattle.log_cells.specs.Ends.{having_looked}
use Rattle.log_cells.proofs.cell.Cell.wait_news.Given as goal

-- it has looked some more times, and read nothing
abbrev pub invariant-loop : goal.invariant-loop
invariant-loop g l = record {
  table : l.r.table ≡ l.initial.r.table;
  refused : l.initial.r.refused ≤ l.r.refused;
  looks : l.initial.r.end.looks ≤ l.r.end.looks;
  end : l.r.end ≡ having_looked l.initial.r.end l.r.end.looks;
}
