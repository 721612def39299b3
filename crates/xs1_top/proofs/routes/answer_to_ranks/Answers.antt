use Rattle.xs1_top.proofs.Routed.{refused_after}
use Rattle.xs1_top.proofs.routes.answer_to_ranks.Goals as goal

pub returns-in-Refused : goal.returns-in-Refused
returns-in-Refused c =
    refused_after c.args.input.now c.args.ranks.now c.rest.result c.in_ok-plan.field-0 c.in-Refused.answer c.in_ok-plan.ensures c.in-Refused.is c.rest.ensures.value
