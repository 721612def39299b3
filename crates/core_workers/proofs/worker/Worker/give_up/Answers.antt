use Rattle.link_logs.specs.declared.answers.Cause.TheVariants as cause
use Rattle.core_workers.proofs.Running.{stop_keeps, all_closed}
use Rattle.core_workers.proofs.worker.Worker.give_up.Goals as goal

pub returns-clause-keeps : goal.returns-clause-keeps
returns-clause-keeps g c = stop_keeps cause.Memory c.args.self.now c.stop.new.self c.stop.ensures.closed c.stop.ensures.rest

pub returns-clause-ended : goal.returns-clause-ended
returns-clause-ended g c = all_closed cause.Memory c.args.self.now.ends.outgoing.items c.stop.new.self.ends.outgoing.items c.stop.ensures.closed c.requires.open

pub returns-clause-shuts : goal.returns-clause-shuts
returns-clause-shuts g c = record { closed = c.stop.ensures.closed; rest = c.stop.ensures.rest }
