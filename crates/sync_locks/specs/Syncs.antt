-- A core's synchronisers and locks, each by their numbers, and what calls leave of them.
use Rattle.std.specs.Prelude.{ℕ, Option, Some, None, List, replicate, slice_index_or, slice_set}
use Rattle.xs_base.specs.Numbers.{ThreadNumber}
use Rattle.xs_model.specs.Record.{SyncRec, LockRec, unused_sync, unused_lock}
use Rattle.xs_model.specs.Syncs.{got_sync, got_lock, Claimed, Owns, IsHeld, IsRefused}

pub record SyncsRec : Type 0 where
  pub syncs : List SyncRec  -- 7
  pub locks : List LockRec  -- 4

-- none is in use
abbrev pub all_unused : SyncsRec
all_unused = record { syncs = replicate 7 unused_sync; locks = replicate 4 unused_lock }

abbrev pub sync_at : List SyncRec → ℕ → SyncRec
sync_at syncs n = slice_index_or syncs n unused_sync

abbrev pub lock_at : List LockRec → ℕ → LockRec
lock_at locks n = slice_index_or locks n unused_lock

-- synchroniser n, or lock n, is as this from now on
abbrev pub with_sync_at : SyncsRec → ℕ → SyncRec → SyncsRec
with_sync_at all n sync = record all { syncs = slice_set all.syncs n sync }

abbrev pub with_lock_at : SyncsRec → ℕ → LockRec → SyncsRec
with_lock_at all n lock = record all { locks = slice_set all.locks n lock }

-- after the one with this number was got, if there is one
abbrev pub with_got_sync : SyncsRec → ThreadNumber → Option ℕ → SyncsRec
with_got_sync all master None = all
with_got_sync all master (Some n) = with_sync_at all n (got_sync master)

abbrev pub with_got_lock : SyncsRec → Option ℕ → SyncsRec
with_got_lock all None = all
with_got_lock all (Some n) = with_lock_at all n (got_lock (lock_at all.locks n))

-- one of them after a call that makes it this, or is refused
abbrev pub sync_after : SyncRec → Option SyncRec → SyncRec
sync_after sync None = sync
sync_after sync (Some after) = after

abbrev pub lock_after : LockRec → Option LockRec → LockRec
lock_after lock None = lock
lock_after lock (Some after) = after

abbrev pub lock_after_claim : LockRec → Claimed → LockRec
lock_after_claim lock (Owns after) = after
lock_after_claim lock IsHeld = lock
lock_after_claim lock IsRefused = lock

-- all of them after a call on the one with number n that makes it this, or is refused
abbrev pub syncs_after : SyncsRec → ℕ → Option SyncRec → SyncsRec
syncs_after all n None = all
syncs_after all n (Some sync) = with_sync_at all n sync

abbrev pub locks_after : SyncsRec → ℕ → Option LockRec → SyncsRec
locks_after all n None = all
locks_after all n (Some lock) = with_lock_at all n lock

abbrev pub locks_after_claim : SyncsRec → ℕ → Claimed → SyncsRec
locks_after_claim all n (Owns lock) = with_lock_at all n lock
locks_after_claim all n IsHeld = all
locks_after_claim all n IsRefused = all
