use Rattle.xs_model.specs.Syncs.{is_bound}
use Rattle.bit_masks.proofs.Free.{none_found_exactly}
use Rattle.sync_locks.proofs.syncs.Syncs.sync_of.Goals as goal

pub returns-clause-none : goal.returns-clause-none
returns-clause-none c =
    rw (← c.self.view_is) (none_found_exactly (λ sync. is_bound c.args.slave sync) _ c.self.inside.syncs 7 c.first_with_slave.result c.first_with_slave.ensures.lowest c.self.invariant.0)
