-- The memory after an issue is that before it, with what is told that was stored.
use Rattle.std.proofs.Common.{◌≡◌, ℕ, zero, suc, Bool, true, false, Option, Some, None, List, [], ◌∷◌, ◌++◌, map, slice_set, refl, ap, sym, subst, ◌∙◌}
use Rattle.std.proofs.lemmas.Bool.{both_ways}
use Rattle.std.proofs.lemmas.Option.{none-some}
use Rattle.std.specs.Prelude.{IfSome}
use Rattle.std.specs.List.{AllByRecursion}
use Rattle.xs_base.specs.Numbers.{Word, ThreadNumber}
use Rattle.xs_model.specs.declared.event.Happen.{Happen}
use Rattle.xs_model.specs.declared.event.Happen.TheVariants as happen
use Rattle.xs_model.specs.declared.thread.Run.{Run}
use Rattle.xs_model.specs.declared.thread.Run.TheVariants.{Going}
use Rattle.xs_model.specs.declared.thread.Thread.{Thread}
use Rattle.xs_model.specs.declared.traps.TheConstants.{ILLEGAL_PC}
use Rattle.xs_model.specs.Record.{CoreRec, EnablingRec, thread_of}
use Rattle.xs_model.specs.Outside.{in_slot}
use Rattle.xs_model.specs.Choices.{choice}
use Rattle.xs_instructions.specs.declared.instr.Instr.{Instr}
use Rattle.xs_instructions.specs.declared.instr.Instr.TheVariants.{Words, Memory, Flow, Kernel, Threads, Resources}
use Rattle.xs_instructions.specs.Code.{code_at}
use Rattle.step_model.specs.Effect.{Setting, Effect, Done, Pause, Trap, Gone, Leaving, Leaves, Traps, Own, own_of, with_own, on_own}
use Rattle.step_model.specs.MemoryRows.{memory_row}
use Rattle.step_model.specs.FlowRows.{flow_row}
use Rattle.step_model.specs.KernelRows.{kernel_row}
use Rattle.step_model.specs.Step.{Issued, halt_unless, trap, settled, executed, issue_begins, issued_with, issued_by}
use Rattle.event_unit.specs.Ready.{choice_of}
use Rattle.processor.specs.NextIssue.{next_issue_by}
use Rattle.issue_model.specs.declared.Store.{Store}
use Rattle.core_step.specs.Told.{has_trap}
use Rattle.issue_model.specs.Endings.{ending_of, is_done}
use Rattle.issue_model.specs.Stores.{stores}
use Rattle.issue_model.specs.Issues.{thread_in, done_by, stored_by}
use Rattle.issue_laws.specs.Followed.{with_store}
use Rattle.issue_model.specs.Issues.{stored_in}
use Rattle.issue_laws.proofs.Traps.{IsQuiet, told_later}
use Rattle.issue_laws.proofs.ThreadRows.{Stays, words_stay, threads_stay}
use Rattle.issue_laws.proofs.ResourceRows.{resources_stay}
use Rattle.issue_laws.proofs.OwnRows.{Follows, own, memory_follows, flow_follows, kernel_follows}

-- ---- The thread that issues

-- a thread that does this after its issue has done its instruction, unless that trapped
abbrev IsDone : Run → Type 0
IsDone run = is_done (ending_of None false run) ≡ true

-- so does a thread that is set to do it, and one that is not there does as well
set_is_done : (threads : List Thread) (k : ThreadNumber) (th : Thread) → IsDone th.run → IsDone (thread_in (slice_set threads k th) k).run
set_is_done [] k th h = refl
set_is_done (x ∷ threads) zero th h = h
set_is_done (x ∷ threads) (suc k) th h = set_is_done threads k th h

-- a thread that begins to do this is the same but for what it does
run_alone : (threads : List Thread) (k : ThreadNumber) (run : Run)
    → let begun = thread_in (slice_set threads k (record (thread_in threads k) { run = run })) k in begun ≡ record (thread_in threads k) { run = begun.run }
run_alone [] k run = refl
run_alone (x ∷ threads) zero run = refl
run_alone (x ∷ threads) (suc k) run = run_alone threads k run

-- what is told is what an instruction stores, where it was done or stores nothing
told_is : (th : Thread) (ins : Instr) (done : Bool) (store : Option Store) → stores th ins ≡ store → IfSome store (λ stored. done ≡ true)
    → stored_by th (done_by done (Some ins)) ≡ store
told_is th ins true store is h = is
told_is th ins false None is h = refl
told_is th ins false (Some store) is h = absurd (both_ways false refl h)

-- a fact about a store, where there is one, gives another
if_stored : {A B : Type 0} (store : Option Store) → (A → B) → IfSome store (λ stored. A) → IfSome store (λ stored. B)
if_stored None so h = tt
if_stored (Some store) so h = so h

-- ---- The issue of thread k, in a slot in which this happened before it, and was no trap

module _ (code : List Instr) (here : Setting) (core : CoreRec) (k : ThreadNumber) (before : List Happen) (quiet : AllByRecursion IsQuiet before) where
  -- the thread before its issue
  abbrev th : Thread
  th = thread_of core k

  -- the core as the issue begins, and what the thread does then
  abbrev begun : CoreRec
  begun = issue_begins core here.slot k

  abbrev run : Run
  run = (thread_of begun k).run

  -- its thread is otherwise as before
  begun_is : thread_of begun k ≡ record th { run = run }
  begun_is = run_alone core.threads k Going

  -- whether a trap is told, and whether an instruction was done by that
  abbrev traps : Issued → Bool
  traps i = has_trap (map (in_slot here.slot) (before ++ i.happened))

  abbrev done : Bool → Issued → Bool
  done trapped i = is_done (ending_of None trapped (thread_in i.core.threads k).run)

  -- the memory is as the store of the instruction that was found leaves it, where that is told
  abbrev Told : Option Instr → Issued → Type 0
  Told found i = i.core.memory ≡ with_store core.memory (stored_by th (done_by (done (traps i) i) found))

  -- ---- A trap, after which no instruction is told as done

  -- where a trap is told among what happened, no store has to be
  no_store : (found : Option Instr) (i : Issued) → has_trap (map (in_slot here.slot) i.happened) ≡ true → i.core.memory ≡ core.memory → Told found i
  no_store found i trapped same =
      let told : true ≡ traps i = sym (told_later here.slot before i.happened quiet ∙ trapped) in
      same ∙ ap (λ (t : Bool). with_store core.memory (stored_by th (done_by (done t i) found))) told

  -- a trap, after which the thread is in its handler or halts
  halt_told : (found : Option Instr) (stands : Bool) (handler : Thread) (number : ℕ) (next value : Word)
      → Told found (halt_unless stands k handler (happen.Trap k number next value ∷ []) begun)
  halt_told found true handler number next value = no_store found (halt_unless true k handler (happen.Trap k number next value ∷ []) begun) refl refl
  halt_told found false handler number next value = no_store found (halt_unless false k handler (happen.Trap k number next value ∷ []) begun) refl refl

  -- by its number and its data
  trap_told : (found : Option Instr) (number : ℕ) (value : Word) → Told found (trap code begun k number value)
  trap_told found number value = halt_told found _ _ number _ value

  -- ---- Rows that store nothing

  -- a trap keeps the memory
  halt_stays : (stands : Bool) (handler : Thread) (happened : List Happen) → (halt_unless stands k handler happened begun).core.memory ≡ core.memory
  halt_stays true handler happened = refl
  halt_stays false handler happened = refl

  -- an issue keeps the memory where what its instruction does keeps it
  settled_stays : (ends : Effect) → Stays begun ends → (settled code begun k ends).core.memory ≡ core.memory
  settled_stays (Done after happened) h = h
  settled_stays (Pause after wait happened) h = h
  settled_stays (Trap number value) h = halt_stays _ _ _
  settled_stays (Gone after happened) h = h

  -- then nothing has to be told, where the instruction stores nothing
  stays_told : (ins : Instr) → stores th ins ≡ None → (ends : Effect) → Stays begun ends → Told (Some ins) (settled code begun k ends)
  stays_told ins none ends h = settled_stays ends h ∙ ap (with_store core.memory) (sym (told_is th ins _ None none tt))

  -- ---- Rows on the thread and the memory

  -- where the thread goes on, its instruction is told as done
  goes_done : (l : Own) → l.thread.run ≡ run → let i = settled code begun k (on_own begun k (Leaves l)) in done (traps i) i ≡ true
  goes_done l does =
      let goes : IsDone run = set_is_done core.threads k (record th { run = Going }) refl in
      ap (λ (t : Bool). is_done (ending_of None t (thread_in (with_own begun k l).threads k).run)) (told_later here.slot before [] quiet)
      ∙ set_is_done begun.threads k l.thread (subst IsDone (sym does) goes)

  -- what such a row leaves of the memory is told
  own_told : (ins : Instr) (store : Option Store) → stores th ins ≡ store → (left : Leaving Own) → Follows run core.memory store left
      → Told (Some ins) (settled code begun k (on_own begun k left))
  own_told ins store is (Leaves l) h = h.0 ∙ ap (with_store core.memory) (sym (told_is th ins _ store is (if_stored store (goes_done l) h.1)))
  own_told ins store is (Traps number value) h = trap_told (Some ins) number value

  -- such a row goes by what the thread has
  row_told : (ins : Instr) (store : Option Store) → stores th ins ≡ store → (row : Own → Leaving Own) → Follows run core.memory store (row (own run core.memory th))
      → Told (Some ins) (settled code begun k (on_own begun k (row (own_of begun k))))
  row_told ins store is row h =
      own_told ins store is _ (subst (λ thread. Follows run core.memory store (row (record { thread = thread; memory = core.memory }))) (sym begun_is) h)

  -- ---- The issue

  -- every instruction, by the part of the table that its row stands in, and none
  executed_told : (found : Option Instr) → Told found (executed code here begun k found)
  executed_told None = trap_told None ILLEGAL_PC _
  executed_told (Some (Words ins)) = stays_told (Words ins) refl _ (words_stay here begun k ins)
  executed_told (Some (Memory ins)) = row_told (Memory ins) _ refl (λ l. memory_row l ins) (memory_follows run core.memory th ins)
  executed_told (Some (Flow ins)) = row_told (Flow ins) _ refl (λ l. flow_row l ins) (flow_follows run core.memory th ins)
  executed_told (Some (Kernel ins)) = row_told (Kernel ins) _ refl (λ l. kernel_row k l ins) (kernel_follows run core.memory th k ins)
  executed_told (Some (Threads ins)) = stays_told (Threads ins) refl _ (threads_stay here begun k ins)
  executed_told (Some (Resources ins)) = stays_told (Resources ins) refl _ (resources_stay here begun k ins)

  -- by what the thread takes, if anything: then no instruction is executed
  taken_told : (taken : Option EnablingRec) → let i = issued_with code here begun k taken in
      i.core.memory ≡ with_store core.memory (stored_in code core.threads i.core.threads (traps i) (Some (record { thread = k; takes = choice_of taken })))
  taken_told (Some taken) = refl
  taken_told None =
      let executes = executed_told (code_at code (thread_of begun k).pc) in
      subst (λ pc. Told (code_at code pc) (issued_with code here begun k None)) (ap (λ thread. thread.pc) begun_is) executes

-- the memory after the issue of a slot, in which this happened before it and was no trap
pub issued_told : (code : List Instr) (here : Setting) (core : CoreRec) (before : List Happen) (who : Option ThreadNumber) → AllByRecursion IsQuiet before
    → let i = issued_by code here core who in
    let traps = has_trap (map (in_slot here.slot) (before ++ i.happened)) in
    i.core.memory ≡ with_store core.memory (stored_in code core.threads i.core.threads traps (next_issue_by core here.slot who))
issued_told code here core before None quiet = refl
issued_told code here core before (Some k) quiet = taken_told code here core k before quiet (choice (issue_begins core here.slot k) here.slot k)

-- where nobody issues, no thread changes
pub nobody_changes : (code : List Instr) (here : Setting) (core : CoreRec) (who : Option ThreadNumber) → next_issue_by core here.slot who ≡ None
    → (issued_by code here core who).core.threads ≡ core.threads
nobody_changes code here core None nobody = refl
nobody_changes code here core (Some k) nobody = absurd (none-some _ (sym nobody))
