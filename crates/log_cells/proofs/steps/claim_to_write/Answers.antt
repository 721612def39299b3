use Rattle.std.proofs.Common.{rules}
use Rattle.std.proofs.lemmas.Bool.{eqb-true, eqb-false}
use Rattle.log_cells.specs.Rule.{refused_of, raised_of, writing_of}
use Rattle.log_cells.proofs.Kept.{writer_claims}
use Rattle.log_cells.proofs.Turns.{writer_won, writer_won_once, writer_lost, writer_lost_once, raised_before}
use Rattle.log_cells.proofs.steps.claim_to_write.Goals as goal

pub compare_exchange-requires : goal.compare_exchange-requires
compare_exchange-requires g c = (search rules, search rules, writer_claims _ _ _ _ c.requires.writer)

pub returns-clause-has : goal.returns-clause-has
returns-clause-has g c had =
    let told = c.compare_exchange.ensures.2 (writing_of c.args.end.now (refused_of c.args.seat.now.me.0) (raised_of c.args.seat.now.me.0)) c.requires.writer in
    writer_won _ _ _ _ c.args.end.now told (eqb-true _ _ had)

pub returns-clause-same : goal.returns-clause-same
returns-clause-same g c had =
    let told = c.compare_exchange.ensures.2 (writing_of c.args.end.now (refused_of c.args.seat.now.me.0) (raised_of c.args.seat.now.me.0)) c.requires.writer in
    writer_won_once _ _ _ _ c.args.end.now told (eqb-true _ _ had)

pub returns-clause-writer : goal.returns-clause-writer
returns-clause-writer g c held =
    let told = c.compare_exchange.ensures.2 (writing_of c.args.end.now (refused_of c.args.seat.now.me.0) (raised_of c.args.seat.now.me.0)) c.requires.writer in
    writer_lost _ _ _ _ c.args.end.now told (eqb-false _ _ held)

pub returns-clause-refused : goal.returns-clause-refused
returns-clause-refused g c held =
    let told = c.compare_exchange.ensures.2 (writing_of c.args.end.now (refused_of c.args.seat.now.me.0) (raised_of c.args.seat.now.me.0)) c.requires.writer in
    writer_lost_once _ _ _ _ c.args.end.now told (eqb-false _ _ held)

pub returns-clause-raised : goal.returns-clause-raised
returns-clause-raised g c =
    let told = c.compare_exchange.ensures.2 (writing_of c.args.end.now (refused_of c.args.seat.now.me.0) (raised_of c.args.seat.now.me.0)) c.requires.writer in
    raised_before _ _ _ _ c.args.end.now told
