use Rattle.std.proofs.Common.{Some}
use Rattle.bit_masks.proofs.Free.{none_free_exactly}
use Rattle.sync_locks.proofs.syncs.Syncs.get_lock.Goals as goal

pub returns-in-Some-clause-none : goal.returns-in-Some-clause-none
returns-in-Some-clause-none c =
    rw (← c.self.view_is) (none_free_exactly _ _ c.self.inside.locks 4 (Some c.in-Some.n) c.in-Some.ensures.lowest c.self.invariant.1)

pub returns-in_default-clause-none : goal.returns-in_default-clause-none
returns-in_default-clause-none c =
    rw (← c.self.view_is) (none_free_exactly _ _ c.self.inside.locks 4 c.first_free_lock-free.result c.first_free_lock-free.ensures.lowest c.self.invariant.1)
