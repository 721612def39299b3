use Rattle.std.proofs.Common.{sym, subst}
use Rattle.std.specs.List.{All}
use Rattle.core_workers.specs.Worker.{WorkerRec, IsOpen}
use Rattle.core_workers.proofs.Closing.{all_open}
use Rattle.core_workers.proofs.worker.Worker.turn.Goals as goal

pub returns-clause-open : goal.returns-clause-open
returns-clause-open g c =
    all_open c.self.inside.ends.outgoing.items c.take_turn.new.ends.outgoing.items c.take_turn.ensures.stays.outgoing
    (subst (λ (w : WorkerRec). All IsOpen w.ends.outgoing.items) (sym c.self.view_is) c.requires.open)
