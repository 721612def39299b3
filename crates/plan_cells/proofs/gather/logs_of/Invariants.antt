use Rattle.std.proofs.Common.{vec_len}
use Rattle.plan_cells.proofs.Gathering.{Gathers}
use Rattle.plan_cells.proofs.gather.logs_of.Given as goal

abbrev pub decreases-loop-cell : goal.decreases-loop-cell
decreases-loop-cell l = vec_len l.cells

abbrev pub invariant-loop-cell : goal.invariant-loop-cell
invariant-loop-cell l = Gathers l.plan l.fn.cells.items l.fn.all.items l.cells.items l.all.items l.logs.items
