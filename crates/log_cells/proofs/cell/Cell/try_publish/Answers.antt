use Rattle.log_cells.proofs.cell.Cell.try_publish.Goals as goal

pub append-answer-requires-clause-has : goal.append-answer-requires-clause-has
append-answer-requires-clause-has g c = c.claim_to_write.ensures.has c.if-not-claim_to_write.false
