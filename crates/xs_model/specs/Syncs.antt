-- Synchronisers and locks: what threads do with them.
use Rattle.std.specs.Prelude.{ℕ, Bool, true, false, ◌&&◌, not, ◌==◌, nat_lt, if◌then◌else◌, Option, Some, None, is_some, is_none, List, [], ◌∷◌, length}
use Rattle.std.specs.List.{list_any}
use Rattle.xs_base.specs.Numbers.{ThreadNumber}
use Rattle.xs_model.specs.Record.{SyncRec, LockRec, unused_sync, unused_lock}
use Rattle.xs_model.specs.Free.{lowest_free}

-- whether a thread is this one, if there is one
abbrev pub is_thread : ThreadNumber → Option ThreadNumber → Bool
is_thread k None = false
is_thread k (Some other) = other == k

-- ---- Synchronisers. One is in use where it has a master.

abbrev pub is_sync_used : SyncRec → Bool
is_sync_used sync = is_some sync.master

-- a synchroniser that a thread just got
abbrev pub got_sync : ThreadNumber → SyncRec
got_sync master = record { master = Some master; slaves = [] }

-- threads in ascending order, with one that is among them too
unfoldable pub with_slave : ThreadNumber → List ThreadNumber → List ThreadNumber
with_slave k [] = k ∷ []
with_slave k (slave ∷ slaves) =
    if nat_lt k slave then k ∷ slave ∷ slaves
    else (if k == slave then slave ∷ slaves
    else slave ∷ with_slave k slaves)

-- whether a thread is bound to a synchroniser
abbrev pub is_bound : ThreadNumber → SyncRec → Bool
is_bound k sync = list_any (λ slave. slave == k) sync.slaves

-- the synchroniser that a thread is bound to, the lowest, if there is one: the first that is not without it
abbrev pub sync_with : ThreadNumber → List SyncRec → Option ℕ
sync_with k syncs = lowest_free (λ sync. not (is_bound k sync)) syncs 0

-- a thread is bound to it too, or no thread is bound to it any more
abbrev pub with_bound : ThreadNumber → SyncRec → SyncRec
with_bound k sync = record sync { slaves = with_slave k sync.slaves }

abbrev pub unbound : SyncRec → SyncRec
unbound sync = record sync { slaves = [] }

-- a slave is bound to it by its master, and by no other thread
abbrev pub bound : ThreadNumber → ThreadNumber → SyncRec → Option SyncRec
bound by slave sync = if is_thread by sync.master then Some (with_bound slave sync) else None

-- it is freed by its master, while it has no slaves
abbrev pub freed_sync : ThreadNumber → SyncRec → Option SyncRec
freed_sync by sync = if is_thread by sync.master && (length sync.slaves == 0) then Some unused_sync else None

-- ---- Locks

-- a lock that is put in use: what was said of its owner stays
abbrev pub got_lock : LockRec → LockRec
got_lock lock = record lock { used = true }

-- a lock that was released
abbrev pub free_lock : LockRec
free_lock = record { used = true; owner = None }

-- what a thread finds that would own a lock: it owns it, another thread does, or it is refused
pub data Claimed : Type 0 where
  Owns : (lock : LockRec) → Claimed
  IsHeld : Claimed
  IsRefused : Claimed

abbrev pub claimed_from : ThreadNumber → Option ThreadNumber → Claimed
claimed_from k None = Owns (record { used = true; owner = Some k })
claimed_from k (Some owner) = if owner == k then IsRefused else IsHeld

-- a lock that is not in use refuses, and so does one that the thread owns already
abbrev pub claimed : ThreadNumber → LockRec → Claimed
claimed k lock = if lock.used then claimed_from k lock.owner else IsRefused

-- it is released by its owner, and by no other thread
abbrev pub released : ThreadNumber → LockRec → Option LockRec
released k lock = if lock.used && is_thread k lock.owner then Some free_lock else None

-- it is freed while nobody owns it
abbrev pub freed_lock : LockRec → Option LockRec
freed_lock lock = if lock.used && is_none lock.owner then Some unused_lock else None
