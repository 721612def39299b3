use Rattle.std.proofs.Common.{rules}
use Rattle.log_cells.proofs.Kept.{writer_gives}
use Rattle.log_cells.proofs.Turns.{gave_written}
use Rattle.log_cells.proofs.steps.give_written.Goals as goal

pub store-requires : goal.store-requires
store-requires g c = (search rules, search rules, writer_gives _ _ _ _ _ _ c.requires.has)

pub returns-clause-writer : goal.returns-clause-writer
returns-clause-writer g c = gave_written _ _ _ _ c.args.end.now c.requires.has c.store.ensures.2
