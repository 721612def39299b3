use Rattle.std.proofs.Common.{Some, sym, ◌∙◌}
use Rattle.switch_routes.proofs.Marks.{marked-set, marked-empty, none_waits}
use Rattle.switch_routes.proofs.links.noted.Goals as goal

pub returns-then-is_some : goal.returns-then-is_some
returns-then-is_some c = λ row marked. marked-set c.args.mask c.with_mark.result c.args.end row (Some c.args.link.now) marked c.with_mark.ensures.added c.with_mark.ensures.others

pub returns-else-is_some : goal.returns-else-is_some
returns-else-is_some c = λ row marked.
    marked-empty c.args.mask c.without_mark.result c.args.end row (Some c.args.link.now) marked (none_waits c.first.result c.args.link.now.buffer c.first.ensures.cases (sym c.is_some.ensures ∙ c.if-is_some.false)) c.without_mark.ensures.others
