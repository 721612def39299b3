use Rattle.log_cells.proofs.cell.Cell.try_end.Goals as goal

pub close-requires-clause-has : goal.close-requires-clause-has
close-requires-clause-has g c = c.claim_to_write.ensures.has c.if-not-claim_to_write.false
