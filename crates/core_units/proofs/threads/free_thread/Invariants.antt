use Rattle.std.proofs.Common.{◌≡◌, drop}
use Rattle.xs_model.specs.Free.{lowest_free}
use Rattle.step_model.specs.ThreadRows.{is_taken}
use Rattle.core_units.proofs.threads.free_thread.Given as goal

-- no thread below k is free
abbrev pub invariant-loop-k : goal.invariant-loop-k
invariant-loop-k l = lowest_free (λ th. is_taken th.run) l.threads 0 ≡ lowest_free (λ th. is_taken th.run) (drop l.k l.threads) l.k
