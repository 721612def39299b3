use Rattle.std.proofs.Common.{◌≡◌, ◌≤◌}
use Rattle.log_cells.proofs.cell.Cell.poll.Given as goal

-- it was refused the turn some more times, and nothing else has changed
abbrev pub invariant-loop : goal.invariant-loop
invariant-loop g l = record {
  end : l.r ≡ record l.initial.r { refused = l.r.refused };
  refused : l.initial.r.refused ≤ l.r.refused;
}
