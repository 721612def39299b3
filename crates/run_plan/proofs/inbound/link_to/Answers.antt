use Rattle.run_plan.proofs.Ends.{is-below}
use Rattle.run_plan.proofs.inbound.link_to.Goals as goal

pub returns-clause-below : goal.returns-clause-below
returns-clause-below c = is-below c.args.plan.now c.args.n c.args.end c.requires.end c.incoming.result c.incoming.ensures.value
