use Rattle.core_step.proofs.Ends.{passes}
use Rattle.core_step.proofs.node_core.Core.acts.Goals as goal

pub returns : goal.returns
returns c = record {
  passes = passes c.args.slot c.args.arrivals.now c.args.pins.now _ _ _ _ _ c.to_issue.ensures.reaches c.finish.ensures.ends;
}
