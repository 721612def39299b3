-- What a snapshot keeps of a synchroniser or a lock tells all of it, and it is what a snapshot may have.
use Rattle.std.proofs.Common.{ℕ, ◌≡◌, ◌^◌, ◌<◌, true, false, Option, Some, None, IfSome, List, [], refl, ap, sym, ◌∙◌, Bool, arith}
use Rattle.xs_base.specs.declared.numbers.TheConstants.{THREADS}
use Rattle.xs_model.specs.Record.{SyncRec, LockRec}
use Rattle.xs_model.specs.Masks.{members}
use Rattle.sync_locks.specs.declared.state.SyncState.{SyncState}
use Rattle.sync_locks.specs.declared.state.LockState.{LockState}
use Rattle.sync_locks.specs.States.{mask_of, sync_state, sync_of, IsSyncState, lock_state, lock_of}
use Rattle.sync_locks.proofs.Masks.{mask-again}

-- ---- Synchronisers, whose slaves are those of a mask

abbrev with_mask : Option ℕ → ℕ → SyncRec
with_mask master mask = record { master = master; slaves = members mask }

pub sync-again : (master : Option ℕ) (mask : ℕ) → mask < 2 ^ 8 → sync_of (sync_state (with_mask master mask)) ≡ with_mask master mask
sync-again None mask fits = ap (with_mask None) (mask-again mask fits)
sync-again (Some k) mask fits = ap (with_mask (Some k)) (mask-again mask fits)

again : (used : Bool) (master slaves : ℕ) → slaves < 2 ^ 8 → (used ≡ false → (master ≡ 0) × (slaves ≡ 0))
    → let state : SyncState = record { used = used; master = master; slaves = slaves } in sync_state (sync_of state) ≡ state
again true master slaves fits unused = ap (λ n. let state : SyncState = record { used = true; master = master; slaves = n } in state) (mask-again slaves fits)
again false master slaves fits unused =
    ap (λ n. let state : SyncState = record { used = false; master = 0; slaves = n } in state) (mask-again slaves fits)
    ∙ ap (λ n. let state : SyncState = record { used = false; master = n; slaves = slaves } in state) (sym (unused refl).0)

pub sync_state-again : (state : SyncState) → IsSyncState state → state.slaves < 2 ^ 8 → sync_state (sync_of state) ≡ state
sync_state-again state is fits = again state.used state.master state.slaves fits is.unused

-- one whose master is a thread, and which without one has no slaves
pub is_sync_state : (master : Option ℕ) (slaves : List ℕ) → IfSome master (λ k. k < THREADS) → (master ≡ None → slaves ≡ []) → IsSyncState (sync_state (record { master = master; slaves = slaves }))
is_sync_state None slaves thread none = record {
  master = omega arith;
  unused = λ _. (refl, ap mask_of (none refl));
}
is_sync_state (Some k) slaves thread none = record {
  master = thread;
  unused = λ e. cc;
}

-- ---- Locks

pub lock-again : (lock : LockRec) → lock_of (lock_state lock) ≡ lock
lock-again lock = refl

pub lock_state-again : (state : LockState) → lock_state (lock_of state) ≡ state
lock_state-again state = refl
