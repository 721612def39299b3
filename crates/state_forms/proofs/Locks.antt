-- The law of locks.
use Rattle.std.proofs.Common.{◌≡◌, ℕ, ◌<◌, List, length, Option, Some, None, refl, arith}
use Rattle.std.proofs.lemmas.List.Elements.{All-from_recursion, recursion_from_All}
use Rattle.std.specs.Prelude.{IfSome}
use Rattle.sync_locks.specs.declared.state.LockState.{LockState}
use Rattle.sync_locks.specs.States.{IsLockState, AreLockStates}
use Rattle.byte_forms.specs.Forms.{byte, repeat}
use Rattle.byte_forms.specs.Laws.{Lawful}
use Rattle.byte_forms.proofs.Fields.{byte-lawful}
use Rattle.byte_forms.proofs.Parts.{both-lawful, flag-lawful, option_below-lawful, seen-lawful}
use Rattle.state_forms.proofs.Holding.{flag_holds, option_below_holds, option_below_of, repeat_holds, repeat_of, each_as}
use Rattle.state_forms.specs.Locks.{lock, lock_of_fields, lock_fields}

pub lock-lawful : Lawful lock
unfolding lock
lock-lawful = seen-lawful lock_of_fields lock_fields (both-lawful flag-lawful (λ used. option_below-lawful 8 byte-lawful)) (λ p h. refl) (λ state. refl)

-- ---- Which have the form: those whose owner is a thread

pub lock_holds : (state : LockState) → lock.Holds state → IsLockState state
unfolding lock
lock_holds state h = option_below_holds byte 8 state.owner h.1

a_byte : (o : Option ℕ) → IfSome o (λ k. k < 8) → IfSome o (λ k. k < 256)
a_byte None h = tt
a_byte (Some k) h = omega arith

pub lock_of : (state : LockState) → IsLockState state → lock.Holds state
unfolding lock
lock_of state h = (flag_holds state.used, option_below_of byte 8 (omega arith) state.owner (a_byte state.owner h) h)

pub locks_hold : (n : ℕ) (states : List LockState) → (repeat n lock).Holds states → AreLockStates states
locks_hold n states h = All-from_recursion IsLockState states (each_as lock_holds states (repeat_holds lock n states h))

pub locks_of : (n : ℕ) (states : List LockState) → length states ≡ n → AreLockStates states → (repeat n lock).Holds states
locks_of n states len h = repeat_of lock n states len (each_as lock_of states (recursion_from_All IsLockState states h))
