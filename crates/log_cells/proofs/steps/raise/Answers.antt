use Rattle.std.proofs.Common.{rules}
use Rattle.log_cells.specs.Rule.{refused_of, raised_of, writing_of}
use Rattle.log_cells.proofs.Kept.{news_rise}
use Rattle.log_cells.proofs.steps.raise.Goals as goal

pub fetch_add-requires : goal.fetch_add-requires
fetch_add-requires g c = (search rules, search rules, news_rise _ _ _ _ c.requires.writer)

pub returns-clause-raised : goal.returns-clause-raised
returns-clause-raised g c =
    c.fetch_add.ensures.2 (writing_of c.args.end.now (refused_of c.args.seat.now.me.0) (raised_of c.args.seat.now.me.0)) c.requires.writer
