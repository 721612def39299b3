use Rattle.std.proofs.Common.{◌≡◌, drop, not}
use Rattle.xs_model.specs.Free.{lowest_free}
use Rattle.xs_model.specs.Syncs.{sync_with, is_bound}
use Rattle.sync_locks.proofs.syncs.first_with_slave.Given as goal

-- the thread is bound to no synchroniser below n
abbrev pub invariant-loop-n : goal.invariant-loop-n
invariant-loop-n l = sync_with l.slave l.syncs ≡ lowest_free (λ sync. not (is_bound l.slave sync)) (drop l.n l.syncs) l.n
