use Rattle.snap_run.proofs.Rests.{rest_is}
use Rattle.snap_run.proofs.run_on.rest_of.Goals as goal

pub returns : goal.returns
returns c = record { text = rest_is c.end_text.result c.args.snap.now c.in_ok-plan.plan c.in_ok-went.went c.args.limit c.in_ok-went.ensures.value c.in_ok-plan.ensures.plan c.end_text.ensures.text }
