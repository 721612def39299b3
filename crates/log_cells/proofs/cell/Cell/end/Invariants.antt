use Rattle.std.proofs.Common.{◌≡◌, ◌≤◌}
use Rattle.log_cells.proofs.cell.Cell.end.Given as goal

-- it was refused the turn some more times, and nothing else has changed
abbrev pub invariant-loop : goal.invariant-loop
invariant-loop g l = record {
  end : l.w ≡ record l.initial.w { refused = l.w.refused };
  refused : l.initial.w.refused ≤ l.w.refused;
}
