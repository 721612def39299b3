use Rattle.std.proofs.Common.{rules}
use Rattle.std.proofs.lemmas.Bool.{eqb-true, eqb-false}
use Rattle.log_cells.specs.Rule.{refused_of, turns_of, reading_of}
use Rattle.log_cells.proofs.Kept.{reader_claims}
use Rattle.log_cells.proofs.Turns.{reader_won, reader_won_once, reader_lost, reader_lost_once, one_more_turn}
use Rattle.log_cells.proofs.steps.claim_to_read.Goals as goal

pub compare_exchange-requires : goal.compare_exchange-requires
compare_exchange-requires g c = (search rules, search rules, reader_claims _ _ _ _ c.requires.reader)

pub returns-clause-has : goal.returns-clause-has
returns-clause-has g c had =
    let told = c.compare_exchange.ensures.2 (reading_of c.args.end.now (refused_of c.args.seat.now.me.0) (turns_of c.args.seat.now.me.0)) c.requires.reader in
    reader_won _ _ _ _ c.args.end.now told (eqb-true _ _ had)

pub returns-clause-same : goal.returns-clause-same
returns-clause-same g c had =
    let told = c.compare_exchange.ensures.2 (reading_of c.args.end.now (refused_of c.args.seat.now.me.0) (turns_of c.args.seat.now.me.0)) c.requires.reader in
    reader_won_once _ _ _ _ c.args.end.now told (eqb-true _ _ had)

pub returns-clause-reader : goal.returns-clause-reader
returns-clause-reader g c held =
    let told = c.compare_exchange.ensures.2 (reading_of c.args.end.now (refused_of c.args.seat.now.me.0) (turns_of c.args.seat.now.me.0)) c.requires.reader in
    reader_lost _ _ _ _ c.args.end.now told (eqb-false _ _ held)

pub returns-clause-refused : goal.returns-clause-refused
returns-clause-refused g c held =
    let told = c.compare_exchange.ensures.2 (reading_of c.args.end.now (refused_of c.args.seat.now.me.0) (turns_of c.args.seat.now.me.0)) c.requires.reader in
    reader_lost_once _ _ _ _ c.args.end.now told (eqb-false _ _ held)

pub returns-clause-turns : goal.returns-clause-turns
returns-clause-turns g c =
    let told = c.compare_exchange.ensures.2 (reading_of c.args.end.now (refused_of c.args.seat.now.me.0) (turns_of c.args.seat.now.me.0)) c.requires.reader in
    one_more_turn _ _ _ _ c.args.end.now told
