-- The rows on words and on threads leave the memory as it was.
use Rattle.std.proofs.Common.{◌≡◌, ℕ, Bool, true, false, if◌then◌else◌, Option, Some, None, [], refl}
use Rattle.xs_base.specs.Numbers.{Register, ThreadNumber, Identifier}
use Rattle.xs_model.specs.declared.thread.Thread.{Thread}
use Rattle.xs_model.specs.declared.thread.Run.TheVariants.{Going}
use Rattle.xs_model.specs.declared.thread.Wait.TheVariants as wait
use Rattle.xs_model.specs.declared.traps.TheConstants.{ILLEGAL_RESOURCE}
use Rattle.xs_model.specs.declared.resource.Resource.{Resource}
use Rattle.xs_model.specs.declared.resource.Resource.TheVariants as resource
use Rattle.xs_model.specs.Threads.{with_register}
use Rattle.xs_model.specs.Record.{CoreRec, thread_of, sync_of, with_thread, with_run}
use Rattle.xs_model.specs.Syncs.{is_thread}
use Rattle.xs_model.specs.Waits.{is_in, all_in, division_is_over}
use Rattle.xs_instructions.specs.declared.instr.WordIns.{WordIns}
use Rattle.xs_instructions.specs.declared.instr.ThreadIns.{ThreadIns}
use Rattle.xs_instructions.specs.declared.instr.ThreadIns.TheVariants as threads
use Rattle.step_model.specs.Effect.{Setting, Effect, Done, Pause, Trap, Gone, Leaving, Leaves, Traps, reg, goes_on, on_registers}
use Rattle.step_model.specs.WordRows.{words_row}
use Rattle.step_model.specs.DividerRows.{shares_divider, on_divider, words_effect}
use Rattle.step_model.specs.Named.{resource_named}
use Rattle.step_model.specs.ThreadRows.{thread_to_get, slave_got, by_master, as_master, slaves_go, slaves_are_freed, when_all_in}
use Rattle.step_model.specs.ThreadRows.{on_named_thread, on_thread, sets_other, is_slave, may_start, threads_row}

-- the memory after an effect, where that has a core
abbrev pub Stays : CoreRec → Effect → Type 0
Stays core (Done after happened) = after.memory ≡ core.memory
Stays core (Pause after wait happened) = after.memory ≡ core.memory
Stays core (Trap number value) = Unit {0}
Stays core (Gone after happened) = after.memory ≡ core.memory

-- one effect or another
pub either_stays : (core : CoreRec) (holds : Bool) (x y : Effect) → Stays core x → Stays core y → Stays core (if holds then x else y)
either_stays core true x y one other = one
either_stays core false x y one other = other

module _ (here : Setting) (core : CoreRec) (k : ThreadNumber) where
  -- ---- Rows on words, which may wait for the divider

  -- a row that goes on at once
  registers_stay : (left : Leaving Thread) → Stays core (on_registers core k left)
  registers_stay (Leaves th) = refl
  registers_stay (Traps number value) = tt

  -- one that waits where the divider is not free
  divider_stays : (left : Leaving Thread) → Stays core (on_divider here.slot core k left)
  divider_stays (Leaves th) = either_stays core (division_is_over core.slots.division here.slot) _ (Pause core wait.Divider []) refl refl
  divider_stays (Traps number value) = tt

  -- each row on words
  pub words_stay : (ins : WordIns) → Stays core (words_effect here core k ins)
  words_stay ins =
      let row = words_row (thread_of core k) ins in
      either_stays core (shares_divider here.edition ins) (on_divider here.slot core k row) (on_registers core k row) (divider_stays row) (registers_stay row)

  -- ---- Rows on threads

  -- a slave is got, or none is free
  slave_stays : (d : Register) (n : ℕ) (found : Option ThreadNumber) → (slave_got here core k d n found).memory ≡ core.memory
  slave_stays d n None = refl
  slave_stays d n (Some j) = refl

  -- what the master of a synchroniser does
  by_master_stays : (name : Identifier) (does : ℕ → Effect) → ((n : ℕ) → Stays core (does n)) → (named : Option Resource) → Stays core (by_master core k name does named)
  by_master_stays name does h (Some (resource.Sync n)) = either_stays core (is_thread k (sync_of core n).master) (does n) _ (h n) tt
  by_master_stays name does h _ = tt

  -- of the one that a register has
  master_stays : (s : Register) (does : ℕ → Effect) → ((n : ℕ) → Stays core (does n)) → Stays core (as_master here core k s does)
  master_stays s does h = by_master_stays (reg core k s) does h (resource_named here.id (reg core k s))

  -- it waits until its slaves are in
  all_in_stay : (becomes : CoreRec → ℕ → CoreRec) (n : ℕ) → (becomes core n).memory ≡ core.memory → Stays core (when_all_in core k becomes n)
  all_in_stay becomes n h = either_stays core (all_in core n) (Done (goes_on (becomes core n) k) []) (Pause core (wait.Slaves n) []) h refl

  -- what is done to another thread
  named_stays : (name : Identifier) (allowed : ThreadNumber → Bool) (after : ThreadNumber → CoreRec) → ((j : ThreadNumber) → (after j).memory ≡ core.memory)
      → (named : Option Resource) → Stays core (on_named_thread core k name allowed after named)
  named_stays name allowed after h (Some (resource.Thread j)) = either_stays core (allowed j) (Done (goes_on (after j) k) []) (Trap ILLEGAL_RESOURCE name) (h j) tt
  named_stays name allowed after h _ = tt

  -- to the one that a register has
  thread_stays : (s : Register) (allowed : ThreadNumber → Bool) (after : ThreadNumber → CoreRec) → ((j : ThreadNumber) → (after j).memory ≡ core.memory)
      → Stays core (on_thread here core k s allowed after)
  thread_stays s allowed after h = named_stays (reg core k s) allowed after h (resource_named here.id (reg core k s))

  -- where a register of it is set
  sets_stay : (s : Register) (sets : Thread → Thread) → Stays core (sets_other here core k s sets)
  sets_stay s sets = thread_stays s (λ j. is_in (thread_of core j).run) (λ j. with_thread core j (sets (thread_of core j))) (λ j. refl)

  -- each row on threads
  pub threads_stay : (ins : ThreadIns) → Stays core (threads_row here core k ins)
  threads_stay (threads.Getst d s) = master_stays s _ (λ n. slave_stays d n (thread_to_get core))
  threads_stay (threads.InitPc s x) = sets_stay s (λ th. record th { pc = reg core k x })
  threads_stay (threads.InitSp s x) = sets_stay s (λ th. record th { sp = reg core k x })
  threads_stay (threads.InitDp s x) = sets_stay s (λ th. record th { dp = reg core k x })
  threads_stay (threads.InitCp s x) = sets_stay s (λ th. record th { cp = reg core k x })
  threads_stay (threads.InitLr s x) = sets_stay s (λ th. record th { lr = reg core k x })
  threads_stay (threads.SetOther s d x) = sets_stay s (λ th. with_register th d (reg core k x))
  threads_stay (threads.Start s) = thread_stays s (may_start core) (λ j. with_run core j Going) (λ j. refl)
  threads_stay (threads.Msync s) = master_stays s _ (λ n. all_in_stay slaves_go n refl)
  threads_stay (threads.Mjoin s) = master_stays s _ (λ n. all_in_stay slaves_are_freed n refl)
  threads_stay threads.Ssync = either_stays core (is_slave core k) _ (Trap ILLEGAL_RESOURCE 0) refl tt
  threads_stay threads.Freet = either_stays core (is_slave core k) (Trap ILLEGAL_RESOURCE 0) _ tt refl
