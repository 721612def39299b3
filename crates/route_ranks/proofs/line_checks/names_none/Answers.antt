use Rattle.std.proofs.Common.{◌∙◌, sym, arith}
use Rattle.sys_plan.specs.Plan.{Arc}
use Rattle.rank_model.specs.Checks.{is_rank_of}
use Rattle.route_ranks.proofs.Lines.{neither}
use Rattle.route_ranks.proofs.line_checks.names_none.Goals as goal

pub loop-link-preserved : goal.loop-link-preserved
loop-link-preserved c =
    c.loop-link.invariant
    ∙ neither (λ (arc : Arc). is_rank_of c.args.plan.now arc c.args.rank) c.args.plan.now.links c.links-link-items.result.now c.links-link-items.ensures.value c.loop-link.link-index
    (record { a = 0; a_end = 0; b = 0; b_end = 0; delay = 0; gap = 0; net = 0 }) (omega arith)
    (sym c.gives.ensures.value ∙ c.if-gives.false) (sym c.gives-else-gives.ensures.value ∙ c.if-gives-2.false)
