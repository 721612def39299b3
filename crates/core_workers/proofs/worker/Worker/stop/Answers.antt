use Rattle.core_workers.proofs.Closing.{closed_worker}
use Rattle.core_workers.proofs.worker.Worker.stop.Goals as goal

pub invariant_of-self : goal.invariant_of-self
invariant_of-self g c =
    closed_worker c.args.cause c.self.inside.lanes.now c.self.inside.runner c.self.inside.ends c.close_all.new.ends c.close_all.ensures.incoming c.close_all.ensures.closes c.self.invariant

pub returns-clause-keeps : goal.returns-clause-keeps
returns-clause-keeps g c =
    closed_worker c.args.cause c.self.inside.lanes.now c.self.inside.runner c.self.inside.ends c.close_all.new.ends c.close_all.ensures.incoming c.close_all.ensures.closes c.self.invariant
