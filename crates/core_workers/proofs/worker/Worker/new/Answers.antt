use Rattle.core_workers.proofs.Starting.{made}
use Rattle.core_workers.proofs.worker.Worker.new.Goals as goal

pub invariant_of-result : goal.invariant_of-result
invariant_of-result c = made c.args.lanes.now c.args.runner c.args.ends c.node-node.ensures.plan c.requires.new_runner c.requires.new_ends

pub returns-clause-keeps : goal.returns-clause-keeps
returns-clause-keeps c = made c.args.lanes.now c.args.runner c.args.ends c.node-node.ensures.plan c.requires.new_runner c.requires.new_ends
