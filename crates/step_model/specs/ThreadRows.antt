-- The rows on threads: a master gets slaves and joins them; any thread sets the registers of one that does not run, and
-- starts one that is nobody's slave.
use Rattle.std.specs.Prelude.{ℕ, Bool, true, false, ◌&&◌, not, if◌then◌else◌, Option, Some, None, List, [], ◌∷◌, is_some, slice_index_or, slice_set}
use Rattle.xs_base.specs.Numbers.{Slot, Register, ThreadNumber, Identifier}
use Rattle.xs_base.specs.Ids.{res_id}
use Rattle.xs_base.specs.declared.numbers.TheConstants.{THREAD_KIND}
use Rattle.xs_model.specs.declared.thread.Thread.{Thread}
use Rattle.xs_model.specs.declared.thread.Run.{Run}
use Rattle.xs_model.specs.declared.thread.Run.TheVariants.{Free, Unstarted, AtSync, Going}
use Rattle.xs_model.specs.declared.thread.Wait.TheVariants as wait
use Rattle.xs_model.specs.declared.traps.TheConstants.{ILLEGAL_RESOURCE}
use Rattle.xs_model.specs.declared.resource.Resource.{Resource}
use Rattle.xs_model.specs.declared.resource.Resource.TheVariants as resource
use Rattle.xs_model.specs.Threads.{fresh_thread, with_register}
use Rattle.xs_model.specs.Record.{CoreRec, thread_of, sync_of, with_thread, with_run, with_last, with_sync, with_enabled}
use Rattle.xs_model.specs.Free.{lowest_free}
use Rattle.xs_model.specs.Syncs.{is_thread, sync_with, with_bound, unbound}
use Rattle.xs_model.specs.Enabling.{without_thread, without_threads}
use Rattle.xs_model.specs.Waits.{is_in, all_in}
use Rattle.xs_instructions.specs.declared.instr.ThreadIns.{ThreadIns}
use Rattle.xs_instructions.specs.declared.instr.ThreadIns.TheVariants as threads
use Rattle.step_model.specs.Effect.{Setting, Effect, Done, Pause, Trap, Gone, allowed_where, reg, goes_on, goes_on_with}
use Rattle.step_model.specs.Named.{resource_named}

-- ---- Getting a thread

abbrev pub is_taken : Run → Bool
is_taken Free = false
is_taken _ = true

-- the lowest thread that is free
abbrev pub thread_to_get : CoreRec → Option ThreadNumber
thread_to_get core = lowest_free (λ th. is_taken th.run) core.threads 0

-- a thread that is got in a slot is unstarted, its registers are 0, and the slot is its last issue
abbrev pub with_got_thread : CoreRec → ThreadNumber → Slot → CoreRec
with_got_thread core j slot = with_last (with_thread core j fresh_thread) j slot

abbrev pub thread_id : ThreadNumber → Identifier
thread_id j = res_id j THREAD_KIND

-- a slave of synchroniser n is got: register d takes its identifier, or 0 where no thread is free
abbrev pub slave_got : Setting → CoreRec → ThreadNumber → Register → ℕ → Option ThreadNumber → CoreRec
slave_got here core k d n None = goes_on_with core k d 0
slave_got here core k d n (Some j) =
    goes_on_with (with_sync (with_got_thread core j here.slot) n (with_bound j (sync_of core n))) k d (thread_id j)

-- ---- Rows of a master, on the synchroniser that register s names

abbrev pub by_master : CoreRec → ThreadNumber → Identifier → (ℕ → Effect) → Option Resource → Effect
by_master core k name does (Some (resource.Sync n)) = if is_thread k (sync_of core n).master then does n else Trap ILLEGAL_RESOURCE name
by_master core k name does _ = Trap ILLEGAL_RESOURCE name

abbrev pub as_master : Setting → CoreRec → ThreadNumber → Register → (ℕ → Effect) → Effect
as_master here core k s does = by_master core k (reg core k s) does (resource_named here.id (reg core k s))

-- some threads do this from now on
unfoldable pub with_runs : Run → List ThreadNumber → List Thread → List Thread
with_runs run [] threads = threads
with_runs run (j ∷ rest) threads =
    with_runs run rest (slice_set threads j (record (slice_index_or threads j fresh_thread) { run = run }))

-- so do the slaves of synchroniser n
abbrev pub with_slaves_run : CoreRec → ℕ → Run → CoreRec
with_slaves_run core n run = record core { threads = with_runs run (sync_of core n).slaves core.threads }

-- they all go
abbrev pub slaves_go : CoreRec → ℕ → CoreRec
slaves_go core n = with_slaves_run core n Going

-- they are all free, and no slaves of it any more; what they enabled is disabled
abbrev pub slaves_are_freed : CoreRec → ℕ → CoreRec
slaves_are_freed core n =
    let slaves = (sync_of core n).slaves in
    with_enabled (with_sync (with_slaves_run core n Free) n (unbound (sync_of core n))) (without_threads slaves core.enabled)

-- thread k is free; what it enabled is disabled
abbrev pub thread_is_freed : CoreRec → ThreadNumber → CoreRec
thread_is_freed core k = with_enabled (with_run core k Free) (without_thread k core.enabled)

-- the master waits until all its slaves are in, and then this becomes of them
abbrev pub when_all_in : CoreRec → ThreadNumber → (CoreRec → ℕ → CoreRec) → ℕ → Effect
when_all_in core k becomes n = if all_in core n then Done (goes_on (becomes core n) k) [] else Pause core (wait.Slaves n) []

-- ---- Rows on the thread that register s names

abbrev pub on_named_thread : CoreRec → ThreadNumber → Identifier → (ThreadNumber → Bool) → (ThreadNumber → CoreRec) → Option Resource → Effect
on_named_thread core k name allowed after (Some (resource.Thread j)) = allowed_where (allowed j) name (goes_on (after j) k)
on_named_thread core k name allowed after _ = Trap ILLEGAL_RESOURCE name

abbrev pub on_thread : Setting → CoreRec → ThreadNumber → Register → (ThreadNumber → Bool) → (ThreadNumber → CoreRec) → Effect
on_thread here core k s allowed after = on_named_thread core k (reg core k s) allowed after (resource_named here.id (reg core k s))

-- a row that sets a register of a thread which is unstarted or at sync
abbrev pub sets_other : Setting → CoreRec → ThreadNumber → Register → (Thread → Thread) → Effect
sets_other here core k s sets =
    on_thread here core k s (λ j. is_in (thread_of core j).run) (λ j. with_thread core j (sets (thread_of core j)))

abbrev pub is_slave : CoreRec → ThreadNumber → Bool
is_slave core j = is_some (sync_with j core.syncs)

abbrev pub is_unstarted : Run → Bool
is_unstarted Unstarted = true
is_unstarted _ = false

-- a thread that is unstarted, and nobody's slave: those are started by `msync`
abbrev pub may_start : CoreRec → ThreadNumber → Bool
may_start core j = is_unstarted (thread_of core j).run && not (is_slave core j)

-- ---- The rows

abbrev pub threads_row : Setting → CoreRec → ThreadNumber → ThreadIns → Effect
threads_row here core k (threads.Getst d s) = as_master here core k s (λ n. Done (slave_got here core k d n (thread_to_get core)) [])
threads_row here core k (threads.InitPc s x) = sets_other here core k s (λ th. record th { pc = reg core k x })
threads_row here core k (threads.InitSp s x) = sets_other here core k s (λ th. record th { sp = reg core k x })
threads_row here core k (threads.InitDp s x) = sets_other here core k s (λ th. record th { dp = reg core k x })
threads_row here core k (threads.InitCp s x) = sets_other here core k s (λ th. record th { cp = reg core k x })
threads_row here core k (threads.InitLr s x) = sets_other here core k s (λ th. record th { lr = reg core k x })
threads_row here core k (threads.SetOther s d x) = sets_other here core k s (λ th. with_register th d (reg core k x))
threads_row here core k (threads.Start s) = on_thread here core k s (may_start core) (λ j. with_run core j Going)
threads_row here core k (threads.Msync s) = as_master here core k s (when_all_in core k slaves_go)
threads_row here core k (threads.Mjoin s) = as_master here core k s (when_all_in core k slaves_are_freed)
threads_row here core k threads.Ssync = allowed_where (is_slave core k) 0 (with_run (goes_on core k) k AtSync)
threads_row here core k threads.Freet =
    if is_slave core k then Trap ILLEGAL_RESOURCE 0 else Gone (thread_is_freed (goes_on core k) k) []
