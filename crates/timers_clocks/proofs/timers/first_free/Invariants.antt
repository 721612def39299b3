use Rattle.std.proofs.Common.{◌≡◌, drop}
use Rattle.xs_model.specs.Free.{lowest_free}
use Rattle.timers_clocks.proofs.timers.first_free.Given as goal

-- no timer below n is free
abbrev pub invariant-loop-n : goal.invariant-loop-n
invariant-loop-n l = lowest_free (λ timer. timer.used) l.timers 0 ≡ lowest_free (λ timer. timer.used) (drop l.n l.timers) l.n
