use Rattle.std.proofs.Common.{◌∙◌, is_none, sym, ap, arith, Option}
use Rattle.sys_plan.specs.Plan.{Arc}
use Rattle.rank_model.specs.declared.rank_line.RankLine.{RankLine}
use Rattle.rank_model.specs.Checks.{given_rank}
use Rattle.route_ranks.proofs.Lines.{neither, not_none}
use Rattle.route_ranks.proofs.line_checks.is_missing.Goals as goal

pub loop-link-preserved : goal.loop-link-preserved
loop-link-preserved c =
    let none = λ (o : Option RankLine). is_none o in
    c.loop-link.invariant
    ∙ neither (λ (arc : Arc). is_none (given_rank c.args.plan.now c.args.lines.now arc)) c.args.plan.now.links c.links-link-items.result.now c.links-link-items.ensures.value c.loop-link.link-index
    (record { a = 0; a_end = 0; b = 0; b_end = 0; delay = 0; gap = 0; net = 0 }) (omega arith)
    (ap none (sym c.given.ensures.value) ∙ not_none c.given.result c.is_none.result c.is_none.ensures c.if-is_none.false)
    (ap none (sym c.given-else-is_none.ensures.value) ∙ not_none c.given-else-is_none.result c.is_none-else-is_none.result c.is_none-else-is_none.ensures c.if-is_none-2.false)
