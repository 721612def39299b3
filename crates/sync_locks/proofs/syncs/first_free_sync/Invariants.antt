use Rattle.std.proofs.Common.{◌≡◌, drop}
use Rattle.xs_model.specs.Free.{lowest_free}
use Rattle.xs_model.specs.Syncs.{is_sync_used}
use Rattle.sync_locks.proofs.syncs.first_free_sync.Given as goal

-- no synchroniser below n is free
abbrev pub invariant-loop-n : goal.invariant-loop-n
invariant-loop-n l = lowest_free is_sync_used l.syncs 0 ≡ lowest_free is_sync_used (drop l.n l.syncs) l.n
