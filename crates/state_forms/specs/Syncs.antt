-- How synchronisers stand in bytes.
use Rattle.std.specs.Prelude.{ℕ, Bool, false, ◌||◌, not, ◌==◌, nat_lt, if◌then◌else◌, List, slice_index_or}
use Rattle.std.specs.List.{list_any}
use Rattle.xs_base.specs.Numbers.{ThreadNumber}
use Rattle.xs_base.specs.declared.numbers.TheConstants.{THREADS}
use Rattle.xs_model.specs.Masks.{in_mask, members}
use Rattle.sync_locks.specs.declared.state.SyncState.{SyncState}
use Rattle.byte_forms.specs.Forms.{Form, byte, flag, where_is, both, seen_as, chain}

-- whether it is in use, its master, and the mask of its slaves
abbrev pub SyncFields : Type 0
SyncFields = Bool × (ℕ × ℕ)

abbrev pub sync_of_fields : SyncFields → SyncState
sync_of_fields f = record { used = f.0; master = f.1.0; slaves = f.1.1 }

abbrev pub fields_of_sync : SyncState → SyncFields
fields_of_sync s = (s.used, (s.master, s.slaves))

-- whether a thread is a slave of one of these
abbrev pub is_slave_of : List SyncState → ThreadNumber → Bool
is_slave_of syncs k = list_any (λ s. in_mask s.slaves k) syncs

-- whether a thread, where these are not free, is free or has one of these synchronisers already
abbrev pub cannot_be_slave : List Bool → List SyncState → ThreadNumber → Bool
cannot_be_slave taken before k = not (slice_index_or taken k false) || is_slave_of before k

-- a master is a thread, and 0 where the synchroniser is not in use
abbrev pub is_master : Bool → ℕ → Bool
is_master used master = if used then nat_lt master THREADS else master == 0

-- no slave is free or has another synchroniser, and one that is not in use has no slaves
abbrev pub are_slaves : List Bool → List SyncState → Bool → ℕ → Bool
are_slaves taken before used slaves = if used then not (list_any (cannot_be_slave taken before) (members slaves)) else slaves == 0

-- A synchroniser after those before it, of a core on which these threads are not free. Slaves are refused at their mask.
unfoldable pub sync : List Bool → List SyncState → Form SyncState
sync taken before =
    seen_as (both flag (λ used. both (where_is byte (is_master used)) (λ master. where_is byte (are_slaves taken before used))))
    sync_of_fields fields_of_sync

-- the synchronisers of a core
abbrev pub syncs : List Bool → Form (List SyncState)
syncs taken = chain 7 (sync taken)
