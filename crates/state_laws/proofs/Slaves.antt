-- The synchronisers of a core and their slaves stay as they may be.
use Rattle.std.proofs.Common.{◌≡◌, ◌≢◌, ◌⊎◌, inl, inr, ℕ, zero, suc, ◌+◌, ◌*◌, ◌%◌, ◌^◌, ◌<◌, ◌==◌, ◌||◌, Bool, true, false, nat_lt, cond, if◌then◌else◌, Option, Some, None, List, [], ◌∷◌, length, get_or, slice_set, replicate, bit_or, refl, sym, ap, subst, ◌∙◌, length-set, arith}
use Rattle.std.specs.List.{list_any}
use Rattle.std.proofs.lemmas.Bool.{both_ways, or_cases, or_left, or_right, or_parts, eqb-true, eqb-false, cases_Bool, cases_lt, false≢true}
use Rattle.std.proofs.lemmas.List.{get_or_past}
use Rattle.std.proofs.lemmas.Nat.{widths}
use Rattle.std.proofs.lemmas.Grind.{common_steps}
use Rattle.std.proofs.lemmas.Option.{none-some}
use Rattle.xs_base.specs.Numbers.{Slot, ThreadNumber}
use Rattle.xs_base.specs.declared.numbers.TheConstants.{THREADS}
use Rattle.xs_model.specs.declared.thread.Thread.{Thread}
use Rattle.xs_model.specs.declared.thread.Run.{Run}
use Rattle.xs_model.specs.declared.thread.Run.TheVariants.{Free, Going}
use Rattle.xs_model.specs.Free.{lowest_free}
use Rattle.xs_model.specs.Threads.{fresh_thread}
use Rattle.xs_model.specs.Record.{CoreRec, SyncRec, unused_sync, thread_of, sync_of}
use Rattle.xs_model.specs.Syncs.{is_thread, is_bound, with_slave, with_bound, unbound, sync_with, got_sync}
use Rattle.step_model.specs.Effect.{Setting}
use Rattle.step_model.specs.Step.{setting_of, before_issue, node_step}
use Rattle.step_model.specs.ThreadRows.{is_taken, with_runs}
use Rattle.step_laws.proofs.Free.{lowest_is_free}
use Rattle.bit_masks.proofs.Free.{none_found_exactly}
use Rattle.sync_locks.proofs.Slaves.{members_with}
use Rattle.state_laws.specs.Facts.{IsThread, AreOfMask, SlavesFit}
use Rattle.state_laws.specs.Laws.{IsSoAtFirst, StaysSo}
use Rattle.state_laws.proofs.Changes.{Change, RunStays}
use Rattle.state_laws.proofs.Changes as change
use Rattle.state_laws.proofs.Issue.{issue_of_eight_keeps}
use Rattle.state_laws.proofs.Lists.{Placed, is_old, is_new, placed}
use Rattle.state_laws.proofs.Switch.{core_before}

abbrev thread_at : List Thread → ThreadNumber → Thread
thread_at threads k = get_or threads k fresh_thread

abbrev sync_at : List SyncRec → ℕ → SyncRec
sync_at syncs n = get_or syncs n unused_sync

abbrev Taken : Thread → Type 0
Taken th = is_taken th.run ≡ true

-- the same by the parts of a core that it is about
record Fit (threads : List Thread) (lasts : List (Option Slot)) (syncs : List SyncRec) : Type 0 where
  eight : length threads ≡ THREADS
  issues : length lasts ≡ THREADS
  masters : (n : ℕ) → IsThread (sync_at syncs n).master
  unused : (n : ℕ) → (sync_at syncs n).master ≡ None → (sync_at syncs n).slaves ≡ []
  masks : (n : ℕ) → AreOfMask (sync_at syncs n).slaves
  one : (k : ThreadNumber) (m n : ℕ) → is_bound k (sync_at syncs m) ≡ true → is_bound k (sync_at syncs n) ≡ true → m ≡ n
  taken : (k : ThreadNumber) (n : ℕ) → is_bound k (sync_at syncs n) ≡ true → Taken (thread_at threads k)

abbrev Fits : CoreRec → Type 0
Fits core = Fit core.threads core.slots.last core.syncs

fits : (core : CoreRec) → SlavesFit core → Fits core
fits core h = record { eight = h.threads; issues = h.lasts; masters = h.masters; unused = h.unused; masks = h.masks; one = h.one; taken = h.taken }

fitted : (core : CoreRec) → Fits core → SlavesFit core
fitted core h = record { threads = h.eight; lasts = h.issues; masters = h.masters; unused = h.unused; masks = h.masks; one = h.one; taken = h.taken }

-- ---- Threads

-- a thread that was not set is as it was, and one that there is not is taken
set_taken : (threads : List Thread) (j : ℕ) (th : Thread) (k : ℕ) → (k ≡ j → Taken th) → (k ≢ j → Taken (thread_at threads k)) → Taken (thread_at (slice_set threads j th) k)
set_taken [] j th k new old = refl
set_taken (x ∷ threads) zero th zero new old = new refl
set_taken (x ∷ threads) zero th (suc k) new old = old (λ e. absurd (omega (arith, e)))
set_taken (x ∷ threads) (suc j) th zero new old = old (λ e. absurd (omega (arith, e)))
set_taken (x ∷ threads) (suc j) th (suc k) new old = set_taken threads j th k (λ e. new (ap suc e)) (λ other. old (λ e. other (omega (arith, e))))

runs_long : (run : Run) (members : List ThreadNumber) (threads : List Thread) → length (with_runs run members threads) ≡ length threads
unfolding with_runs
runs_long run [] threads = refl
runs_long run (j ∷ rest) threads =
    let next = record (thread_at threads j) { run = run } in
    runs_long run rest (slice_set threads j next) ∙ length-set threads j next

go_taken : (members : List ThreadNumber) (threads : List Thread) (k : ℕ) → Taken (thread_at threads k) → Taken (thread_at (with_runs Going members threads) k)
unfolding with_runs
go_taken [] threads k h = h
go_taken (j ∷ rest) threads k h =
    let next = record (thread_at threads j) { run = Going } in
    go_taken rest (slice_set threads j next) k (set_taken threads j next k (λ e. refl) (λ other. h))

-- those that are not among them stay
others_taken : (run : Run) (members : List ThreadNumber) (threads : List Thread) (k : ℕ) → list_any (λ slave. slave == k) members ≡ false → Taken (thread_at threads k) → Taken (thread_at (with_runs run members threads) k)
unfolding with_runs
others_taken run [] threads k none h = h
others_taken run (j ∷ rest) threads k none h =
    let next = record (thread_at threads j) { run = run } in
    let parts = or_parts (j == k) (list_any (λ slave. slave == k) rest) none in
    others_taken run rest (slice_set threads j next) k parts.1 (set_taken threads j next k (λ e. absurd (eqb-false j k parts.0 (sym e))) (λ other. h))

run_taken : (old new : Run) → RunStays old new → is_taken old ≡ true → is_taken new ≡ true
run_taken old new (inl same) h = ap is_taken same ∙ h
run_taken old new (inr is) h = is.1

-- ---- Getting a thread

lowest_below : {A : Type 0} (test : A → Bool) (list : List A) (n j : ℕ) → lowest_free test list n ≡ Some j → j < n + length list
unfolding lowest_free
lowest_below test [] n j is = absurd (none-some j is)
lowest_below test (a ∷ list) n j is = by (test a) is (lowest_below test list (n + 1) j)
  where
    by : (taken : Bool) → cond taken (lowest_free test list (n + 1)) (Some n) ≡ Some j → (lowest_free test list (n + 1) ≡ Some j → j < n + 1 + length list) → j < n + suc (length list)
    by true is others = omega (arith, others is)
    by false is others = let same : n ≡ j = cc in omega (arith, same)

-- a thread that is got is one of eight, and bound to none
module _ (threads : List Thread) (lasts : List (Option Slot)) (syncs : List SyncRec) (h : Fit threads lasts syncs) (j : ThreadNumber) (got : lowest_free (λ th. is_taken th.run) threads 0 ≡ Some j) where
  got_low : j < THREADS
  got_low = omega (arith, lowest_below (λ th. is_taken th.run) threads 0 j got, h.eight)

  got_unbound : (n : ℕ) → is_bound j (sync_at syncs n) ≡ true → ⊥
  got_unbound n bound = both_ways _ (lowest_is_free (λ th. is_taken th.run) threads j fresh_thread got) (h.taken j n bound)

-- ---- Masks

none_of_mask : AreOfMask []
none_of_mask = (0, omega arith, refl)

or_fits : (mask k : ℕ) → mask < 2 ^ 8 → bit_or mask (1 * 2 ^ k % 256) < 2 ^ 8
or_fits mask k low = grind (arith, common_steps, widths, low)

one_more : (k : ThreadNumber) (slaves : List ThreadNumber) → k < 8 → AreOfMask slaves → AreOfMask (with_slave k slaves)
one_more k slaves low (mask, fits, is) =
    (bit_or mask (1 * 2 ^ k % 256), or_fits mask k fits, ap (with_slave k) is ∙ sym (members_with mask k low))

-- who is bound where one more is
abbrev among : ThreadNumber → List ThreadNumber → Bool
among k slaves = list_any (λ slave. slave == k) slaves

bound_or : (k j : ThreadNumber) (slaves : List ThreadNumber) → among k (with_slave j slaves) ≡ true → (k ≡ j) ⊎ (among k slaves ≡ true)
unfolding with_slave
bound_or k j [] is = elim (or_cases (j == k) false is) [ inl same ↦ inl (sym (eqb-true j k same)) | inr other ↦ absurd (false≢true other) ]
bound_or k j (slave ∷ slaves) is = by (nat_lt j slave) (j == slave) is (bound_or k j slaves)
  where
    first : (rest : List ThreadNumber) (b : Bool) → ((b || among k rest) ≡ true) → (b ≡ true) ⊎ (among k rest ≡ true)
    first rest b is = or_cases b (among k rest) is

    later : (k ≡ j) ⊎ (among k slaves ≡ true) → (k ≡ j) ⊎ (among k (slave ∷ slaves) ≡ true)
    later (inl same) = inl same
    later (inr is) = inr (or_right (slave == k) (among k slaves) is)

    by : (less same : Bool) → among k (if less then j ∷ slave ∷ slaves else (if same then slave ∷ slaves else slave ∷ with_slave j slaves)) ≡ true → (among k (with_slave j slaves) ≡ true → (k ≡ j) ⊎ (among k slaves ≡ true)) → (k ≡ j) ⊎ (among k (slave ∷ slaves) ≡ true)
    by true same is others = elim (first (slave ∷ slaves) (j == k) is) [ inl e ↦ inl (sym (eqb-true j k e)) | inr rest ↦ inr rest ]
    by false true is others = inr is
    by false false is others =
        elim (first (with_slave j slaves) (slave == k) is) [
          | inl e ↦ inr (or_left (slave == k) (among k slaves) e)
          | inr rest ↦ later (others rest)
        ]

-- ---- A thread that is bound to no synchroniser

bound_nowhere : (k : ThreadNumber) (syncs : List SyncRec) → sync_with k syncs ≡ None → (n : ℕ) → is_bound k (sync_at syncs n) ≡ false
bound_nowhere k syncs none n = elim (cases_lt n (length syncs)) [
  | inl within ↦ (none_found_exactly (is_bound k) unused_sync syncs (length syncs) (sync_with k syncs) refl refl).0 none n within
  | inr past ↦ ap (is_bound k) (get_or_past syncs n unused_sync past)
]

-- ---- One synchroniser changes

-- it has no slaves then
emptied : (threads after : List Thread) (lasts : List (Option Slot)) (syncs : List SyncRec) (n : ℕ) (sync : SyncRec) → sync.slaves ≡ [] → IsThread sync.master → length after ≡ length threads
    → ((k : ThreadNumber) (m : ℕ) → is_bound k (sync_at syncs m) ≡ true → is_bound k (sync_at (slice_set syncs n sync) m) ≡ true → Taken (thread_at after k)) → Fit threads lasts syncs → Fit after lasts (slice_set syncs n sync)
emptied threads after lasts syncs n sync empty master long still h = record {
  eight = long ∙ h.eight;
  issues = h.issues;
  masters = λ m. by_master m (placed unused_sync syncs n sync m);
  unused = λ m. by_unused m (placed unused_sync syncs n sync m);
  masks = λ m. by_mask m (placed unused_sync syncs n sync m);
  one = λ k m l mine its. h.one k m l (was k m mine) (was k l its);
  taken = λ k m mine. still k m (was k m mine) mine;
}
  where
    by_master : (m : ℕ) → Placed unused_sync syncs n sync m → IsThread (sync_at (slice_set syncs n sync) m).master
    by_master m (is_old same) = subst (λ (s : SyncRec). IsThread s.master) (sym same) (h.masters m)
    by_master m (is_new here is) = subst (λ (s : SyncRec). IsThread s.master) (sym is) master

    by_unused : (m : ℕ) → Placed unused_sync syncs n sync m → (sync_at (slice_set syncs n sync) m).master ≡ None → (sync_at (slice_set syncs n sync) m).slaves ≡ []
    by_unused m (is_old same) = subst (λ (s : SyncRec). s.master ≡ None → s.slaves ≡ []) (sym same) (h.unused m)
    by_unused m (is_new here is) = subst (λ (s : SyncRec). s.master ≡ None → s.slaves ≡ []) (sym is) (λ none. empty)

    by_mask : (m : ℕ) → Placed unused_sync syncs n sync m → AreOfMask (sync_at (slice_set syncs n sync) m).slaves
    by_mask m (is_old same) = subst (λ (s : SyncRec). AreOfMask s.slaves) (sym same) (h.masks m)
    by_mask m (is_new here is) = subst (λ (s : SyncRec). AreOfMask s.slaves) (sym is) (subst AreOfMask (sym empty) none_of_mask)

    no_slave : (k : ThreadNumber) → is_bound k sync ≡ false
    no_slave k = ap (among k) empty

    was : (k : ThreadNumber) (m : ℕ) → is_bound k (sync_at (slice_set syncs n sync) m) ≡ true → is_bound k (sync_at syncs m) ≡ true
    was k m mine = by (placed unused_sync syncs n sync m)
      where
        by : Placed unused_sync syncs n sync m → is_bound k (sync_at syncs m) ≡ true
        by (is_old same) = sym (ap (is_bound k) same) ∙ mine
        by (is_new here is) = absurd (both_ways _ (no_slave k) (sym (ap (is_bound k) is) ∙ mine))

-- a thread was bound to a synchroniser, or it is thread j, which is bound to synchroniser n now
abbrev WasBound : List SyncRec → ℕ → ℕ → ThreadNumber → ℕ → Type 0
WasBound syncs j n k m = (is_bound k (sync_at syncs m) ≡ true) ⊎ ((k ≡ j) × (m ≡ n))

-- a thread that was just got is bound to it too
with_one_bound : (threads : List Thread) (lasts : List (Option Slot)) (syncs : List SyncRec) (j n : ℕ) (slot : Slot) → lowest_free (λ th. is_taken th.run) threads 0 ≡ Some j → ((sync_at syncs n).master ≡ None → ⊥)
    → Fit threads lasts syncs → Fit (slice_set threads j fresh_thread) (slice_set lasts j (Some slot)) (slice_set syncs n (with_bound j (sync_at syncs n)))
with_one_bound threads lasts syncs j n slot got master h = record {
  eight = length-set threads j fresh_thread ∙ h.eight;
  issues = length-set lasts j (Some slot) ∙ h.issues;
  masters = λ m. by_master m (placed unused_sync syncs n sync m);
  unused = λ m. by_unused m (placed unused_sync syncs n sync m);
  masks = λ m. by_mask m (placed unused_sync syncs n sync m);
  one = λ k m l mine its. by_one k m l (was k m mine) (was k l its);
  taken = λ k m mine. by_taken k m (was k m mine);
}
  where
    sync : SyncRec
    sync = with_bound j (sync_at syncs n)

    by_master : (m : ℕ) → Placed unused_sync syncs n sync m → IsThread (sync_at (slice_set syncs n sync) m).master
    by_master m (is_old same) = subst (λ (s : SyncRec). IsThread s.master) (sym same) (h.masters m)
    by_master m (is_new here is) = subst (λ (s : SyncRec). IsThread s.master) (sym is) (h.masters n)

    by_unused : (m : ℕ) → Placed unused_sync syncs n sync m → (sync_at (slice_set syncs n sync) m).master ≡ None → (sync_at (slice_set syncs n sync) m).slaves ≡ []
    by_unused m (is_old same) = subst (λ (s : SyncRec). s.master ≡ None → s.slaves ≡ []) (sym same) (h.unused m)
    by_unused m (is_new here is) = subst (λ (s : SyncRec). s.master ≡ None → s.slaves ≡ []) (sym is) (λ none. absurd (master none))

    by_mask : (m : ℕ) → Placed unused_sync syncs n sync m → AreOfMask (sync_at (slice_set syncs n sync) m).slaves
    by_mask m (is_old same) = subst (λ (s : SyncRec). AreOfMask s.slaves) (sym same) (h.masks m)
    by_mask m (is_new here is) =
        subst (λ (s : SyncRec). AreOfMask s.slaves) (sym is) (one_more j (sync_at syncs n).slaves (got_low threads lasts syncs h j got) (h.masks n))

    was : (k : ThreadNumber) (m : ℕ) → is_bound k (sync_at (slice_set syncs n sync) m) ≡ true → WasBound syncs j n k m
    was k m mine = by (placed unused_sync syncs n sync m)
      where
        by : Placed unused_sync syncs n sync m → WasBound syncs j n k m
        by (is_old same) = inl (sym (ap (is_bound k) same) ∙ mine)
        by (is_new here is) = elim (bound_or k j (sync_at syncs n).slaves (sym (ap (is_bound k) is) ∙ mine)) [
          | inl same ↦ inr (same, here)
          | inr old ↦ inl (ap (λ i. is_bound k (sync_at syncs i)) here ∙ old)
        ]

    by_one : (k : ThreadNumber) (m l : ℕ) → WasBound syncs j n k m → WasBound syncs j n k l → m ≡ l
    by_one k m l (inl mine) (inl its) = h.one k m l mine its
    by_one k m l (inl mine) (inr its) = absurd (got_unbound threads lasts syncs h j got m (subst (λ i. is_bound i (sync_at syncs m) ≡ true) its.0 mine))
    by_one k m l (inr mine) (inl its) = absurd (got_unbound threads lasts syncs h j got l (subst (λ i. is_bound i (sync_at syncs l) ≡ true) mine.0 its))
    by_one k m l (inr mine) (inr its) = mine.1 ∙ sym its.1

    by_taken : (k : ThreadNumber) (m : ℕ) → WasBound syncs j n k m → Taken (thread_at (slice_set threads j fresh_thread) k)
    by_taken k m (inl mine) = set_taken threads j fresh_thread k (λ e. refl) (λ other. h.taken k m mine)
    by_taken k m (inr mine) = set_taken threads j fresh_thread k (λ e. refl) (λ other. absurd (other mine.0))

-- ---- Each change

with_threads : (threads after : List Thread) (lasts : List (Option Slot)) (syncs : List SyncRec) → length after ≡ length threads
    → ((k : ThreadNumber) (n : ℕ) → is_bound k (sync_at syncs n) ≡ true → Taken (thread_at after k)) → Fit threads lasts syncs → Fit after lasts syncs
with_threads threads after lasts syncs long still h = record { eight = long ∙ h.eight; issues = h.issues; masters = h.masters; unused = h.unused; masks = h.masks; one = h.one; taken = still }

with_lasts : (threads : List Thread) (lasts : List (Option Slot)) (syncs : List SyncRec) (j : ℕ) (slot : Slot) → Fit threads lasts syncs → Fit threads (slice_set lasts j (Some slot)) syncs
with_lasts threads lasts syncs j slot h = record { eight = h.eight; issues = length-set lasts j (Some slot) ∙ h.issues; masters = h.masters; unused = h.unused; masks = h.masks; one = h.one; taken = h.taken }

master_is : (k : ThreadNumber) (master : Option ThreadNumber) → is_thread k master ≡ true → master ≡ None → ⊥
master_is k None is none = false≢true is
master_is k (Some m) is none = none-some m (sym none)

not_bound : (slaves : List ThreadNumber) (k : ThreadNumber) → (among k slaves ≡ true → ⊥) → among k slaves ≡ false
not_bound slaves k never = elim (cases_Bool (among k slaves)) [ inl mine ↦ absurd (never mine) | inr is ↦ is ]

-- where a synchroniser is set to one without slaves and is the same as before, it had none
bound_at_old : (syncs : List SyncRec) (n : ℕ) (k : ThreadNumber) → is_bound k (sync_at syncs n) ≡ true → is_bound k (sync_at (slice_set syncs n (unbound (sync_at syncs n))) n) ≡ true → ⊥
bound_at_old [] n k was now = false≢true was
bound_at_old (s ∷ syncs) zero k was now = false≢true now
bound_at_old (s ∷ syncs) (suc n) k was now = bound_at_old syncs n k was now

-- the slaves of a synchroniser are freed: each other slave is one of another
slaves_freed : (threads : List Thread) (lasts : List (Option Slot)) (syncs : List SyncRec) (n : ℕ) → Fit threads lasts syncs → Fit (with_runs Free (sync_at syncs n).slaves threads) lasts (slice_set syncs n (unbound (sync_at syncs n)))
slaves_freed threads lasts syncs n h =
    emptied threads (with_runs Free (sync_at syncs n).slaves threads) lasts syncs n (unbound (sync_at syncs n)) refl (h.masters n) (runs_long Free (sync_at syncs n).slaves threads) still h
  where
    -- place n has no slave then
    other : (k : ThreadNumber) (m : ℕ) → is_bound k (sync_at (slice_set syncs n (unbound (sync_at syncs n))) m) ≡ true → is_bound k (sync_at syncs m) ≡ true → m ≡ n → ⊥
    other k m now was same = by (placed unused_sync syncs n (unbound (sync_at syncs n)) m)
      where
        by : Placed unused_sync syncs n (unbound (sync_at syncs n)) m → ⊥
        by (is_old same_sync) = bound_at_old syncs n k (subst (λ i. is_bound k (sync_at syncs i) ≡ true) same was) (subst (λ i. is_bound k (sync_at (slice_set syncs n (unbound (sync_at syncs n))) i) ≡ true) same now)
        by (is_new here is) = false≢true (sym (ap (is_bound k) is) ∙ now)

    still : (k : ThreadNumber) (m : ℕ) → is_bound k (sync_at syncs m) ≡ true → is_bound k (sync_at (slice_set syncs n (unbound (sync_at syncs n))) m) ≡ true → Taken (thread_at (with_runs Free (sync_at syncs n).slaves threads) k)
    still k m was now =
        others_taken Free (sync_at syncs n).slaves threads k (not_bound (sync_at syncs n).slaves k (λ mine. other k m now was (h.one k m n was mine))) (h.taken k m was)

change_fits : (S : Type 0) (here : Setting) (k : ThreadNumber) → k < THREADS → (core after : CoreRec) → Change S here k core after → Fits core → Fits after
change_fits S here k thread core _ (change.sets j th is) h =
    with_threads core.threads (slice_set core.threads j th) core.slots.last core.syncs (length-set core.threads j th)
    (λ q n bound. set_taken core.threads j th q (λ e. run_taken (thread_of core j).run th.run is (ap (λ i. is_taken (thread_of core i).run) (sym e) ∙ h.taken q n bound)) (λ other. h.taken q n bound)) h
change_fits S here k thread core _ (change.stores memory) h = h
change_fits S here k thread core _ change.issues h = with_lasts core.threads core.slots.last core.syncs k here.slot h
change_fits S here k thread core _ (change.frees_itself is) h =
    let freed = record (thread_of core k) { run = Free } in
    with_threads core.threads (slice_set core.threads k freed) core.slots.last core.syncs (length-set core.threads k freed)
    (λ q n bound. set_taken core.threads k freed q (λ e. absurd (both_ways _ (bound_nowhere k core.syncs is n) (subst (λ i. is_bound i (sync_of core n) ≡ true) e bound))) (λ other. h.taken q n bound)) h
change_fits S here k thread core _ (change.lets_slaves_go n) h =
    let slaves = (sync_of core n).slaves in
    with_threads core.threads (with_runs Going slaves core.threads) core.slots.last core.syncs (runs_long Going slaves core.threads) (λ q m bound. go_taken slaves core.threads q (h.taken q m bound)) h
change_fits S here k thread core _ (change.frees_slaves n) h = slaves_freed core.threads core.slots.last core.syncs n h
change_fits S here k thread core _ (change.gets_thread j is) h =
    with_threads core.threads (slice_set core.threads j fresh_thread) (slice_set core.slots.last j (Some here.slot)) core.syncs (length-set core.threads j fresh_thread)
    (λ q n bound. set_taken core.threads j fresh_thread q (λ e. refl) (λ other. h.taken q n bound)) (with_lasts core.threads core.slots.last core.syncs j here.slot h)
change_fits S here k thread core _ (change.gets_slave j n is master) h =
    with_one_bound core.threads core.slots.last core.syncs j n here.slot is (master_is k (sync_of core n).master master) h
change_fits S here k thread core _ (change.gets_sync n) h =
    emptied core.threads core.threads core.slots.last core.syncs n (got_sync k) refl thread refl (λ q m was now. h.taken q m was) h
change_fits S here k thread core _ (change.frees_sync n) h =
    emptied core.threads core.threads core.slots.last core.syncs n unused_sync refl tt refl (λ q m was now. h.taken q m was) h
change_fits S here k thread core _ (change.sets_lock n lock is) h = h
change_fits S here k thread core _ (change.sets_timer n timer) h = h
change_fits S here k thread core _ (change.sets_clock n clock) h = h
change_fits S here k thread core _ (change.sets_chan c chan is) h = h
change_fits S here k thread core _ (change.sets_port p acted port there row left) h = h
change_fits S here k thread core _ (change.starts_clock n) h = h
change_fits S here k thread core _ (change.sets_enabled enabled is) h = h
change_fits S here k thread core _ change.divides h = h

unused_at : (n i : ℕ) → sync_at (replicate n unused_sync) i ≡ unused_sync
unused_at zero i = refl
unused_at (suc n) zero = refl
unused_at (suc n) (suc i) = unused_at n i

pub first_slaves : IsSoAtFirst (λ rec. SlavesFit rec.core)
first_slaves plan gaps = record {
  threads = refl;
  lasts = refl;
  masters = λ n. subst (λ (s : SyncRec). IsThread s.master) (sym (unused_at 7 n)) tt;
  unused = λ n. subst (λ (s : SyncRec). s.master ≡ None → s.slaves ≡ []) (sym (unused_at 7 n)) (λ none. refl);
  masks = λ n. subst (λ (s : SyncRec). AreOfMask s.slaves) (sym (unused_at 7 n)) none_of_mask;
  one = λ k m n mine its. absurd (false≢true (sym (ap (is_bound k) (unused_at 7 m)) ∙ mine));
  taken = λ k n mine. absurd (false≢true (sym (ap (is_bound k) (unused_at 7 n)) ∙ mine));
}

pub slot_slaves : StaysSo (λ slot rec. SlavesFit rec.core)
unfolding node_step
slot_slaves fixed rec slot arrivals pins h =
    let before = before_issue fixed rec slot arrivals pins in
    let here = setting_of fixed slot pins before.rec in
    let same = core_before fixed rec slot arrivals pins in
    let begun : Fits before.rec.core = subst Fits (sym same) (fits rec.core h) in
    fitted _ (issue_of_eight_keeps fixed.code here before.rec.core Fits begun.issues (λ k thread core after changes. change_fits _ here k thread core after changes) begun)
