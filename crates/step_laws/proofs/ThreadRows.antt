-- The rows on threads leave every thread with known bits: the master's, its slaves', and those that are just got.
use Rattle.std.proofs.Common.{ℕ, Bool, Option, Some, None, List, [], ◌∷◌, slice_index_or, slice_set, refl}
use Rattle.xs_base.specs.Numbers.{Register, ThreadNumber, Identifier}
use Rattle.xs_model.specs.declared.thread.Thread.{Thread}
use Rattle.xs_model.specs.declared.thread.Run.{Run}
use Rattle.xs_model.specs.declared.thread.Run.TheVariants.{Free, AtSync, Going}
use Rattle.xs_model.specs.declared.thread.Wait.TheVariants as wait
use Rattle.xs_model.specs.declared.traps.TheConstants.{ILLEGAL_RESOURCE}
use Rattle.xs_model.specs.declared.resource.Resource.{Resource}
use Rattle.xs_model.specs.declared.resource.Resource.TheVariants as resource
use Rattle.xs_model.specs.Threads.{fresh_thread, with_register, HasKnownBits}
use Rattle.xs_model.specs.Record.{CoreRec, thread_of, sync_of, with_thread, with_run}
use Rattle.xs_model.specs.Syncs.{is_thread}
use Rattle.xs_model.specs.Waits.{is_in, all_in}
use Rattle.xs_instructions.specs.declared.instr.ThreadIns.{ThreadIns}
use Rattle.xs_instructions.specs.declared.instr.ThreadIns.TheVariants as threads
use Rattle.step_model.specs.Effect.{Setting, Effect, Done, Pause, Trap, reg, goes_on}
use Rattle.step_model.specs.Named.{resource_named}
use Rattle.step_model.specs.ThreadRows.{thread_to_get, with_got_thread, slave_got, by_master, as_master, with_runs, slaves_go, slaves_are_freed, when_all_in, on_named_thread, on_thread, sets_other, is_slave, may_start, threads_row}
use Rattle.step_laws.specs.StatusBits.{AllKnown}
use Rattle.step_laws.proofs.Threads.{known, register_known, one_set_known, with_thread_known, with_run_known, goes_on_known, goes_on_with_known}
use Rattle.step_laws.proofs.Effects.{EffectKnown, branch_known, allowed_known}

pub got_thread_known : (core : CoreRec) (j : ThreadNumber) → AllKnown core.threads → AllKnown (with_thread core j fresh_thread).threads
got_thread_known core j all = with_thread_known core j fresh_thread all (known _ refl refl)

runs_known : (run : Run) (members : List ThreadNumber) (threads : List Thread) → AllKnown threads → AllKnown (with_runs run members threads)
unfolding with_runs
runs_known run [] threads all = all
runs_known run (j ∷ rest) threads all =
    let next = record (slice_index_or threads j fresh_thread) { run = run } in
    runs_known run rest (slice_set threads j next) (one_set_known threads j next all (known _ (all j).sr (all j).ssr))

module _ (here : Setting) (core : CoreRec) (k : ThreadNumber) (all : AllKnown core.threads) where
  slave_known : (d : Register) (n : ℕ) (found : Option ThreadNumber) → AllKnown (slave_got here core k d n found).threads
  slave_known d n None = goes_on_with_known core k d 0 all
  slave_known d n (Some j) = goes_on_with_known (with_got_thread core j here.slot) k d _ (got_thread_known core j all)

  -- what the master of a synchroniser does
  by_master_known : (name : Identifier) (does : ℕ → Effect) (named : Option Resource) → ((n : ℕ) → EffectKnown (does n)) → EffectKnown (by_master core k name does named)
  by_master_known name does (Some (resource.Sync n)) h = branch_known (is_thread k (sync_of core n).master) (does n) _ (h n) tt
  by_master_known name does _ h = tt

  as_master_known : (s : Register) (does : ℕ → Effect) → ((n : ℕ) → EffectKnown (does n)) → EffectKnown (as_master here core k s does)
  as_master_known s does h = by_master_known (reg core k s) does (resource_named here.id (reg core k s)) h

  in_known : (becomes : CoreRec → ℕ → CoreRec) (n : ℕ) → AllKnown (becomes core n).threads → EffectKnown (when_all_in core k becomes n)
  in_known becomes n h = branch_known (all_in core n) (Done (goes_on (becomes core n) k) []) (Pause core (wait.Slaves n) []) (goes_on_known (becomes core n) k h) all

  go_known : (n : ℕ) → AllKnown (slaves_go core n).threads
  go_known n = runs_known Going (sync_of core n).slaves core.threads all

  freed_known : (n : ℕ) → AllKnown (slaves_are_freed core n).threads
  freed_known n = runs_known Free (sync_of core n).slaves core.threads all

  -- what is done to another thread
  on_named_known : (name : Identifier) (allowed : ThreadNumber → Bool) (after : ThreadNumber → CoreRec) (named : Option Resource) → ((j : ThreadNumber) → AllKnown (after j).threads) → EffectKnown (on_named_thread core k name allowed after named)
  on_named_known name allowed after (Some (resource.Thread j)) h = allowed_known (allowed j) name (goes_on (after j) k) (goes_on_known (after j) k (h j))
  on_named_known name allowed after _ h = tt

  on_thread_known : (s : Register) (allowed : ThreadNumber → Bool) (after : ThreadNumber → CoreRec) → ((j : ThreadNumber) → AllKnown (after j).threads) → EffectKnown (on_thread here core k s allowed after)
  on_thread_known s allowed after h = on_named_known (reg core k s) allowed after (resource_named here.id (reg core k s)) h

  sets_known : (s : Register) (sets : Thread → Thread) → ((th : Thread) → HasKnownBits th → HasKnownBits (sets th)) → EffectKnown (sets_other here core k s sets)
  sets_known s sets h =
      let sets_of = λ (j : ThreadNumber). with_thread core j (sets (thread_of core j)) in
      on_thread_known s (λ j. is_in (thread_of core j).run) sets_of (λ j. with_thread_known core j _ all (h (thread_of core j) (all j)))

  pub threads_known : (ins : ThreadIns) → EffectKnown (threads_row here core k ins)
  threads_known (threads.Getst d s) = as_master_known s _ (λ n. slave_known d n (thread_to_get core))
  threads_known (threads.InitPc s x) = sets_known s (λ th. record th { pc = reg core k x }) (λ th h. known _ h.sr h.ssr)
  threads_known (threads.InitSp s x) = sets_known s (λ th. record th { sp = reg core k x }) (λ th h. known _ h.sr h.ssr)
  threads_known (threads.InitDp s x) = sets_known s (λ th. record th { dp = reg core k x }) (λ th h. known _ h.sr h.ssr)
  threads_known (threads.InitCp s x) = sets_known s (λ th. record th { cp = reg core k x }) (λ th h. known _ h.sr h.ssr)
  threads_known (threads.InitLr s x) = sets_known s (λ th. record th { lr = reg core k x }) (λ th h. known _ h.sr h.ssr)
  threads_known (threads.SetOther s d x) = sets_known s (λ th. with_register th d (reg core k x)) (λ th h. register_known th d _ h)
  threads_known (threads.Start s) = on_thread_known s (may_start core) (λ j. with_run core j Going) (λ j. with_run_known core j Going all)
  threads_known (threads.Msync s) = as_master_known s _ (λ n. in_known slaves_go n (go_known n))
  threads_known (threads.Mjoin s) = as_master_known s _ (λ n. in_known slaves_are_freed n (freed_known n))
  threads_known threads.Ssync = allowed_known (is_slave core k) 0 _ (with_run_known (goes_on core k) k AtSync (goes_on_known core k all))
  threads_known threads.Freet =
      branch_known (is_slave core k) (Trap ILLEGAL_RESOURCE 0) _ tt (with_run_known (goes_on core k) k Free (goes_on_known core k all))
