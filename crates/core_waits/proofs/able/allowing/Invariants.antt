use Rattle.std.specs.Prelude.{slice_index_or}
use Rattle.xs_model.specs.Threads.{fresh_thread}
use Rattle.core_waits.specs.Parts.{may_choose}
use Rattle.core_waits.proofs.Told.{IsTold}
use Rattle.core_waits.proofs.able.allowing.Given as goal

abbrev pub invariant-loop-k : goal.invariant-loop-k
invariant-loop-k l = IsTold (λ j. may_choose (slice_index_or l.threads j fresh_thread)) l.may l.k
