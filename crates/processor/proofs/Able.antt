-- Threads stay able, or not able, where the thread that goes is set to one that goes: it is able whatever its status, and
-- each other one goes by its own.
use Rattle.std.specs.Prelude.{length, Bool, true, ◌&&◌, ◌||◌, Option, Some, None, IfSome, is_some, slice_set, slice_index_or}
use Rattle.std.specs.List.{list_all}
use Rattle.std.proofs.Common.{◌≡◌, ◌⊎◌, inl, inr, ◌<◌, ℕ, zero, suc, List, [], ◌∷◌, refl, ap, sym, ◌∙◌, get_or, arith}
use Rattle.std.proofs.lemmas.List.{get_or_default}
use Rattle.xs_model.specs.declared.thread.Thread.{Thread}
use Rattle.xs_model.specs.declared.thread.Run.{Run}
use Rattle.xs_model.specs.declared.thread.Run.TheVariants.{Free, Unstarted, AtSync, Going, Paused, Halted}
use Rattle.xs_model.specs.declared.thread.Wait.{Wait}
use Rattle.xs_model.specs.declared.thread.Wait.TheVariants.{Room, Tokens, PortFull, PortEmpty, PortIdle, Timer, Lock, Slaves, Choice, Divider}
use Rattle.xs_model.specs.declared.thread.Outcome.{Outcome}
use Rattle.xs_model.specs.declared.thread.Outcome.TheVariants as outcome
use Rattle.xs_model.specs.Threads.{fresh_thread}
use Rattle.xs_model.specs.Record.{CoreRec, SlotsRec, thread_of, sync_of}
use Rattle.xs_model.specs.Waits.{holds, division_is_over, is_in}
use Rattle.xs_model.specs.Choices.{choice_by, ready_in}
use Rattle.xs_model.specs.Picks.{goes_or_holds, is_paused, is_able}
use Rattle.xs_base.specs.declared.numbers.TheConstants.{THREADS}
use Rattle.core_waits.specs.declared.able.Able.{Able}
use Rattle.core_waits.specs.Parts.{AreAble}
use Rattle.processor.specs.Issue.{gone_on}
use Rattle.processor.specs.Knows.{StaysKnown}

-- a thread, by its number
abbrev pub thread_at : List Thread → ℕ → Thread
thread_at threads k = slice_index_or threads k fresh_thread

-- two that are the same, or both go
abbrev GoAlike : Thread → Thread → Type 0
GoAlike one other = (one ≡ other) ⊎ ((one.run ≡ Going) × (other.run ≡ Going))

-- so is each thread, before and after, where one that goes is set to one that goes
set-alike : (threads : List Thread) (k : ℕ) (th : Thread) → th.run ≡ Going → (thread_at threads k).run ≡ Going → (j : ℕ) → GoAlike (thread_at (slice_set threads k th) j) (thread_at threads j)
set-alike [] k th goes went j = inl refl
set-alike (other ∷ threads) zero th goes went zero = inr (goes, went)
set-alike (other ∷ threads) zero th goes went (suc j) = inl refl
set-alike (other ∷ threads) (suc k) th goes went zero = inl refl
set-alike (other ∷ threads) (suc k) th goes went (suc j) = set-alike threads k th goes went j

same_run : (one other : Thread) → GoAlike one other → one.run ≡ other.run
same_run one other (inl same) = ap (λ (th : Thread). th.run) same
same_run one other (inr both) = both.0 ∙ sym both.1

-- tests that agree at each number agree on all of a list
same_all : (p q : ℕ → Bool) → ((k : ℕ) → p k ≡ q k) → (ks : List ℕ) → list_all p ks ≡ list_all q ks
same_all p q same [] = refl
same_all p q same (k ∷ ks) = ap (λ b. b && list_all p ks) (same k) ∙ ap (λ b. q k && b) (same_all p q same ks)

-- whether thread k of a core is able, were it as this
abbrev able_as : CoreRec → ℕ → ℕ → Thread → Bool
able_as core slot k th = goes_or_holds core slot th.run || (is_paused th.run && is_some (choice_by k th.sr (ready_in core slot) core.enabled))

-- one that goes is
goes_able : (core : CoreRec) (slot k : ℕ) (th : Thread) → th.run ≡ Going → able_as core slot k th ≡ true
goes_able core slot k th goes =
    ap (λ run. goes_or_holds core slot run || (is_paused run && is_some (choice_by k th.sr (ready_in core slot) core.enabled))) goes

same_able : (core : CoreRec) (slot k : ℕ) (one other : Thread) → GoAlike one other → able_as core slot k one ≡ able_as core slot k other
same_able core slot k one other (inl same) = ap (able_as core slot k) same
same_able core slot k one other (inr both) = goes_able core slot k one both.0 ∙ sym (goes_able core slot k other both.1)

-- a core with these threads, last issues and division, and memory in place of its own
abbrev with_these : CoreRec → List Thread → SlotsRec → List ℕ → CoreRec
with_these core threads slots memory = record core { threads = threads; slots = slots; memory = memory }

module _ (core : CoreRec) (threads : List Thread) (slots : SlotsRec) (memory : List ℕ) (divided : slots.division ≡ core.slots.division) (alike : (k : ℕ) → GoAlike (thread_at threads k) (thread_at core.threads k)) where
  holds_still : (slot : ℕ) (what : Wait) → holds (with_these core threads slots memory) slot what ≡ holds core slot what
  holds_still slot (Room chan count) = refl
  holds_still slot (Tokens chan count) = refl
  holds_still slot (PortFull port) = refl
  holds_still slot (PortEmpty port) = refl
  holds_still slot (PortIdle port) = refl
  holds_still slot (Timer timer) = refl
  holds_still slot (Lock lock) = refl
  holds_still slot (Slaves sync) =
      same_all (λ k. is_in (thread_at threads k).run) (λ k. is_in (thread_at core.threads k).run)
      (λ k. ap is_in (same_run (thread_at threads k) (thread_at core.threads k) (alike k)))
      (sync_of core sync).slaves
  holds_still slot Choice = refl
  holds_still slot Divider = ap (λ division. division_is_over division slot) divided

  goes_still : (slot : ℕ) (run : Run) → goes_or_holds (with_these core threads slots memory) slot run ≡ goes_or_holds core slot run
  goes_still slot Free = refl
  goes_still slot Unstarted = refl
  goes_still slot AtSync = refl
  goes_still slot Going = refl
  goes_still slot (Paused what) = holds_still slot what
  goes_still slot Halted = refl

  able_still : (slot k : ℕ) → is_able (with_these core threads slots memory) k slot ≡ is_able core k slot
  able_still slot k =
      let th = thread_at threads k in
      ap (λ goes. goes || (is_paused th.run && is_some (choice_by k th.sr (ready_in core slot) core.enabled))) (goes_still slot th.run)
      ∙ same_able core slot k th (thread_at core.threads k) (alike k)

  pub known_still : (able : Option Able) → IfSome able (AreAble core) → IfSome able (AreAble (with_these core threads slots memory))
  known_still None known = tt
  known_still (Some able) known = record { at = λ slot k is below. known.at slot k is below ∙ sym (able_still slot k); now = known.now }

-- What is known stays true where thread k, read with any default, goes and does what it did; the memory may change.
pub thread-set : (core : CoreRec) (k : ℕ) (th default : Thread) (memory : List ℕ) → k < THREADS → length core.threads ≡ THREADS → (thread_of core k).run ≡ Going → th.run ≡ (get_or core.threads k default).run → StaysKnown core (with_these core (slice_set core.threads k th) core.slots memory)
thread-set core k th default memory below eight goes same able known =
    let there : get_or core.threads k default ≡ get_or core.threads k fresh_thread = get_or_default core.threads k default fresh_thread (omega (arith, eight)) in
    let its : th.run ≡ Going = same ∙ ap (λ (t : Thread). t.run) there ∙ goes in
    known_still core (slice_set core.threads k th) core.slots memory refl (set-alike core.threads k th its goes) able known

-- and whatever the last issues are
pub last-set : (core : CoreRec) (slots : SlotsRec) → slots.division ≡ core.slots.division → StaysKnown core (record core { slots = slots })
last-set core slots divided able known = known_still core core.threads slots core.memory divided (λ k. inl refl) able known

-- what becomes of a thread after its row on words leaves what it does
pub gone_on-run : (o : Outcome) (th : Thread) → (gone_on o th).run ≡ th.run
gone_on-run outcome.Done th = refl
gone_on-run (outcome.Pause wait) th = refl
gone_on-run (outcome.Trap et ed) th = refl
gone_on-run outcome.Gone th = refl
