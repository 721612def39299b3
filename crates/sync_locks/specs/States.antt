-- What a snapshot keeps of a synchroniser and of a lock, the records that it stands for, and what holds of it.
use Rattle.std.specs.Prelude.{ℕ, ◌≡◌, ◌+◌, ◌^◌, ◌<◌, false, true, if◌then◌else◌, Some, None, is_some, IfSome, List, [], ◌∷◌, slice_index_or}
use Rattle.std.specs.Option.{unwrap_or}
use Rattle.std.specs.List.{All}
use Rattle.xs_base.specs.Numbers.{ThreadNumber}
use Rattle.xs_base.specs.declared.numbers.TheConstants.{THREADS}
use Rattle.xs_model.specs.Record.{SyncRec, LockRec}
use Rattle.xs_model.specs.Masks.{in_mask, members}
use Rattle.sync_locks.specs.declared.state.SyncState.{SyncState}
use Rattle.sync_locks.specs.declared.state.LockState.{LockState}

-- ---- Synchronisers

-- the mask of some threads, each of them once
abbrev pub mask_of : List ThreadNumber → ℕ
mask_of [] = 0
mask_of (k ∷ rest) = 2 ^ k + mask_of rest

abbrev pub sync_state : SyncRec → SyncState
sync_state sync = record { used = is_some sync.master; master = unwrap_or sync.master 0; slaves = mask_of sync.slaves }

abbrev pub sync_of : SyncState → SyncRec
sync_of state = record { master = if state.used then Some state.master else None; slaves = members state.slaves }

-- its master is a thread, and one that is not in use has master 0 and no slaves
pub record IsSyncState (state : SyncState) : Type 0 where
  pub master : state.master < THREADS
  pub unused : state.used ≡ false → (state.master ≡ 0) × (state.slaves ≡ 0)

abbrev pub unused_state : SyncState
unused_state = record { used = false; master = 0; slaves = 0 }

-- a slave has one synchroniser
abbrev pub HaveOneSync : List SyncState → Type 0
HaveOneSync states =
    (k : ThreadNumber) (m n : ℕ) → in_mask (slice_index_or states m unused_state).slaves k ≡ true → in_mask (slice_index_or states n unused_state).slaves k ≡ true → m ≡ n

pub record AreSyncStates (states : List SyncState) : Type 0 where
  pub each : All IsSyncState states
  pub slaves : HaveOneSync states

-- ---- Locks

abbrev pub lock_state : LockRec → LockState
lock_state lock = record { used = lock.used; owner = lock.owner }

abbrev pub lock_of : LockState → LockRec
lock_of state = record { used = state.used; owner = state.owner }

-- its owner is a thread
abbrev pub IsLockState : LockState → Type 0
IsLockState state = IfSome state.owner (λ owner. owner < THREADS)

abbrev pub AreLockStates : List LockState → Type 0
AreLockStates states = All IsLockState states
