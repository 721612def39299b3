-- The turns of a run, one after the other.
use Rattle.std.proofs.Common.{◌≡◌, ℕ, suc, refl, subst}
use Rattle.core_workers.specs.declared.turn.Turn.{Turn}
use Rattle.core_workers.specs.Worker.{WorkerRec}
use Rattle.core_workers.specs.Turns.{Takes, IsOneOfMore, GoesOn, GoesOnFor, TakesTurns}

-- the turns that a run has taken so far
abbrev pub HasTaken : WorkerRec → WorkerRec → Type 0
HasTaken before after = (turns : ℕ) × GoesOnFor turns before after

none_taken : (w : WorkerRec) → GoesOnFor 0 w w
unfolding GoesOnFor
none_taken w = refl

one_taken : (turns : ℕ) (before last after : WorkerRec) → GoesOnFor turns before last → GoesOn last after → GoesOnFor (suc turns) before after
unfolding GoesOnFor
one_taken turns before last after earlier on = (last, earlier, on)

pub no_turn : (w : WorkerRec) → HasTaken w w
no_turn w = (0, none_taken w)

pub one_turn_more : (before last : WorkerRec) (turn : Turn) (after : WorkerRec) → HasTaken before last → IsOneOfMore turn → Takes last turn after → HasTaken before after
one_turn_more before last turn after taken more takes =
    (suc taken.0, one_taken taken.0 before last after taken.1 (record { turn = turn; one_of_more = more; takes = takes }))

pub last_turn : (before last : WorkerRec) (answer turn : Turn) (after : WorkerRec) → HasTaken before last → answer ≡ turn → Takes last answer after → TakesTurns before turn after
last_turn before last answer turn after taken is takes =
    record { turns = taken.0; last = last; earlier = taken.1; takes = subst (λ (t : Turn). Takes last t after) is takes }
