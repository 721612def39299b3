use Rattle.log_cells.specs.Ends.{ReadsOf}
use Rattle.log_tests.proofs.log_cells_tests.hear.Given as goal

abbrev pub invariant-loop : goal.invariant-loop
invariant-loop g l = ReadsOf l.r l.cell
