use Rattle.std.proofs.Common.{sym, ◌∙◌}
use Rattle.log_cells.proofs.Keeping.{cell_keeps, steps_go_on}
use Rattle.log_cells.proofs.Counting.{steps_count}
use Rattle.log_cells.proofs.cell.Cell.keeps.Goals as goal

pub returns-clause-keeps : goal.returns-clause-keeps
returns-clause-keeps g c = cell_keeps g.S.Story.entries_at c.args.self.now c.args.log.now (sym c.entries-entries.ensures.value ∙ c.entries-entries.ensures.own)

pub returns-clause-steps : goal.returns-clause-steps
returns-clause-steps g c = steps_go_on g.row.S-Run.Denot

pub returns-clause-counts : goal.returns-clause-counts
returns-clause-counts g c = steps_count g.row.S-Run.Denot
