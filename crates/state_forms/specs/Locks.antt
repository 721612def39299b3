-- How locks stand in bytes.
use Rattle.std.specs.Prelude.{ℕ, Bool, Option}
use Rattle.xs_base.specs.declared.numbers.TheConstants.{THREADS}
use Rattle.sync_locks.specs.declared.state.LockState.{LockState}
use Rattle.byte_forms.specs.Forms.{Form, byte, flag, option_below, both, seen_as}

abbrev pub lock_of_fields : Bool × Option ℕ → LockState
lock_of_fields (used, owner) = record { used = used; owner = owner }

abbrev pub lock_fields : LockState → Bool × Option ℕ
lock_fields state = (state.used, state.owner)

-- whether it is in use, and its owner, a thread
unfoldable pub lock : Form LockState
lock = seen_as (both flag (λ used. option_below byte THREADS)) lock_of_fields lock_fields
