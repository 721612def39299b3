use Rattle.std.proofs.Common.{Some}
use Rattle.bit_masks.proofs.Free.{none_free_exactly}
use Rattle.sync_locks.proofs.syncs.Syncs.get_sync.Goals as goal

pub returns-in-Some-clause-none : goal.returns-in-Some-clause-none
returns-in-Some-clause-none c =
    rw (← c.self.view_is) (none_free_exactly _ _ c.self.inside.syncs 7 (Some c.in-Some.n) c.in-Some.ensures.lowest c.self.invariant.0)

pub returns-in_default-clause-none : goal.returns-in_default-clause-none
returns-in_default-clause-none c =
    rw (← c.self.view_is) (none_free_exactly _ _ c.self.inside.syncs 7 c.first_free_sync-free.result c.first_free_sync-free.ensures.lowest c.self.invariant.0)
