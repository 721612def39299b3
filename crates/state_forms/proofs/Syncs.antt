-- The law of synchronisers, and that those which have the form are those that a core may have.
use Rattle.std.proofs.Common.{Bool, List, refl}
use Rattle.sync_locks.specs.declared.state.SyncState.{SyncState}
use Rattle.byte_forms.specs.Laws.{Lawful}
use Rattle.state_forms.specs.Syncs.{sync_of_fields, fields_of_sync, is_master, are_slaves, sync, syncs}
use Rattle.byte_forms.proofs.Fields.{byte-lawful}
use Rattle.byte_forms.proofs.Parts.{where-lawful, both-lawful, seen-lawful, flag-lawful}
use Rattle.byte_forms.proofs.Lists.{chain-lawful}

-- ---- The law

pub sync-lawful : (taken : List Bool) (before : List SyncState) → Lawful (sync taken before)
unfolding sync
sync-lawful taken before =
    seen-lawful sync_of_fields fields_of_sync
    (both-lawful flag-lawful (λ used. both-lawful (where-lawful (is_master used) byte-lawful) (λ master. where-lawful (are_slaves taken before used) byte-lawful)))
    (λ f h. refl) (λ s. refl)

pub syncs-lawful : (taken : List Bool) → Lawful (syncs taken)
syncs-lawful taken = chain-lawful (sync-lawful taken) 7
