-- What each paused thread waits at stays there.
use Rattle.std.proofs.Common.{ℕ, zero, suc, List, [], ◌∷◌, get_or, slice_set, replicate, sym, subst, inl, inr}
use Rattle.xs_base.specs.Numbers.{ThreadNumber}
use Rattle.xs_model.specs.declared.thread.Thread.{Thread}
use Rattle.xs_model.specs.declared.thread.Run.{Run}
use Rattle.xs_model.specs.declared.thread.Run.TheVariants.{Free, Going}
use Rattle.xs_model.specs.Threads.{fresh_thread}
use Rattle.xs_model.specs.Record.{CoreRec, free_thread, thread_of, sync_of}
use Rattle.step_model.specs.Effect.{Setting}
use Rattle.step_model.specs.Step.{setting_of, before_issue, node_step}
use Rattle.step_model.specs.ThreadRows.{with_runs}
use Rattle.step_laws.proofs.Phases.{before_issue_keeps}
use Rattle.core_step.specs.ThreadStates.{IsRunState}
use Rattle.state_laws.specs.Facts.{WaitAtWhatIsThere}
use Rattle.state_laws.specs.Laws.{IsSoAtFirst, StaysSo}
use Rattle.state_laws.proofs.Changes.{Change, RunStays}
use Rattle.state_laws.proofs.Changes as change
use Rattle.state_laws.proofs.Issue.{issue_keeps}
use Rattle.state_laws.proofs.Lists.{each_set, many_at}

abbrev Waits : Thread → Type 0
Waits th = IsRunState th.run

abbrev AllWait : List Thread → Type 0
AllWait threads = (k : ThreadNumber) → Waits (get_or threads k fresh_thread)

set_waits : (threads : List Thread) (k : ThreadNumber) (th : Thread) → AllWait threads → Waits th → AllWait (slice_set threads k th)
set_waits threads k th all new = each_set Waits fresh_thread threads k th all new

runs_wait : (run : Run) (members : List ThreadNumber) (threads : List Thread) → IsRunState run → AllWait threads → AllWait (with_runs run members threads)
unfolding with_runs
runs_wait run [] threads is all = all
runs_wait run (j ∷ rest) threads is all =
    runs_wait run rest (slice_set threads j (record (get_or threads j fresh_thread) { run = run })) is (set_waits threads j (record (get_or threads j fresh_thread) { run = run }) all is)

run_waits : (old new : Run) → RunStays old new → IsRunState old → IsRunState new
run_waits old new (inl same) h = subst IsRunState (sym same) h
run_waits old new (inr is) h = is.0

change_waits : (S : Type 0) (here : Setting) (k : ThreadNumber) (core after : CoreRec) → Change S here k core after → AllWait core.threads → AllWait after.threads
change_waits S here k core _ (change.sets j th is) all = set_waits core.threads j th all (run_waits (thread_of core j).run th.run is (all j))
change_waits S here k core _ (change.stores memory) all = all
change_waits S here k core _ change.issues all = all
change_waits S here k core _ (change.frees_itself is) all = set_waits core.threads k (record (thread_of core k) { run = Free }) all tt
change_waits S here k core _ (change.lets_slaves_go n) all = runs_wait Going (sync_of core n).slaves core.threads tt all
change_waits S here k core _ (change.frees_slaves n) all = runs_wait Free (sync_of core n).slaves core.threads tt all
change_waits S here k core _ (change.gets_thread j is) all = set_waits core.threads j fresh_thread all tt
change_waits S here k core _ (change.gets_slave j n is master) all = set_waits core.threads j fresh_thread all tt
change_waits S here k core _ (change.gets_sync n) all = all
change_waits S here k core _ (change.frees_sync n) all = all
change_waits S here k core _ (change.sets_lock n lock is) all = all
change_waits S here k core _ (change.sets_timer n timer) all = all
change_waits S here k core _ (change.sets_clock n clock) all = all
change_waits S here k core _ (change.sets_chan c chan is) all = all
change_waits S here k core _ (change.sets_port p acted port there row left) all = all
change_waits S here k core _ (change.starts_clock n) all = all
change_waits S here k core _ (change.sets_enabled enabled is) all = all
change_waits S here k core _ change.divides all = all

pub slot_waits : StaysSo (λ slot rec. WaitAtWhatIsThere rec.core)
unfolding node_step
slot_waits fixed rec slot arrivals pins all =
    let before = before_issue fixed rec slot arrivals pins in
    let here = setting_of fixed slot pins before.rec in
    issue_keeps fixed.code here before.rec.core WaitAtWhatIsThere (λ k core after changes. change_waits _ here k core after changes)
    (subst AllWait (sym (before_issue_keeps fixed rec slot arrivals pins).0) all)

free_waits : (n i : ℕ) → Waits (get_or (replicate n free_thread) i fresh_thread)
free_waits n i = many_at Waits fresh_thread n free_thread i tt tt

pub first_waits : IsSoAtFirst (λ rec. WaitAtWhatIsThere rec.core)
first_waits plan gaps zero = tt
first_waits plan gaps (suc k) = free_waits 7 k
