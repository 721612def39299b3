use Rattle.std.proofs.Common.{rules, sym, ◌∙◌}
use Rattle.log_cells.proofs.Kept.{reader_gives_taken, reader_gives_shut}
use Rattle.log_cells.proofs.Turns.{gave_taken, gave_shut}
use Rattle.log_cells.proofs.steps.give_taken.Goals as goal

pub store-requires : goal.store-requires
store-requires g c = (search rules, search rules, reader_gives_shut _ _ _ _ _ _ c.requires.has (sym c.is_shut.ensures.value ∙ c.if-is_shut.true))

pub store-requires-else-is_shut : goal.store-requires-else-is_shut
store-requires-else-is_shut g c = (search rules, search rules, reader_gives_taken _ _ _ _ _ _ c.requires.has (sym c.is_shut.ensures.value ∙ c.if-is_shut.false))

pub returns-then-is_shut-clause-reader : goal.returns-then-is_shut-clause-reader
returns-then-is_shut-clause-reader g c = gave_shut _ _ _ c.args.end.now _ c.requires.has (sym c.is_shut.ensures.value ∙ c.if-is_shut.true) c.store.ensures.2

pub returns-else-is_shut-clause-reader : goal.returns-else-is_shut-clause-reader
returns-else-is_shut-clause-reader g c = gave_taken _ _ _ c.args.end.now _ c.requires.has (sym c.is_shut.ensures.value ∙ c.if-is_shut.false) c.store-else-is_shut.ensures.2
