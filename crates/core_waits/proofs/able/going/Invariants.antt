use Rattle.xs_model.specs.Record.{CoreRec, EnabledRec, thread_of}
use Rattle.xs_model.specs.Picks.{goes_or_holds}
use Rattle.core_waits.specs.Parts.{HasParts}
use Rattle.core_waits.proofs.Told.{IsTold}
use Rattle.core_waits.proofs.able.going.Given as goal

abbrev pub invariant-loop-k : goal.invariant-loop-k
invariant-loop-k l =
    (core : CoreRec) (events : EnabledRec) → HasParts core l.threads l.slots l.chans l.timers l.syncs l.ports events → IsTold (λ j. goes_or_holds core l.slot (thread_of core j).run) l.going l.k
