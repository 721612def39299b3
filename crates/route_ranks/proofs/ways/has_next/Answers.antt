use Rattle.std.proofs.Common.{◌∙◌, ◌-◌, ◌+◌, sym, arith}
use Rattle.rank_model.specs.Next.{link_count, is_next}
use Rattle.route_ranks.proofs.Searches.{passes_later}
use Rattle.route_ranks.proofs.ways.has_next.Goals as goal

pub loop-link-preserved : goal.loop-link-preserved
loop-link-preserved c =
    let n = c.loop-link.link in
    let count = link_count c.args.plan.now in
    let test = is_next c.args.plan.now c.args.node c.args.net c.args.dest in
    c.loop-link.invariant ∙ passes_later test n (count - n) (count - (n + 1)) (omega arith) (sym c.is_next.ensures.value ∙ c.if-is_next.false)
