use Rattle.std.proofs.Common.{◌≡◌, drop}
use Rattle.xs_model.specs.Free.{lowest_free}
use Rattle.sync_locks.proofs.syncs.first_free_lock.Given as goal

-- no lock below n is free
abbrev pub invariant-loop-n : goal.invariant-loop-n
invariant-loop-n l = lowest_free (λ lock. lock.used) l.locks 0 ≡ lowest_free (λ lock. lock.used) (drop l.n l.locks) l.n
