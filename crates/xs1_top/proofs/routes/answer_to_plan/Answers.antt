use Rattle.xs1_top.proofs.Ranks.{checked_names}
use Rattle.xs1_top.proofs.routes.answer_to_plan.Goals as goal

pub verdict_line-requires : goal.verdict_line-requires
verdict_line-requires c = record { links = checked_names c.args.plan.now c.args.ranks.now c.in-Ok.verdict c.in-Ok.ensures.exact }
