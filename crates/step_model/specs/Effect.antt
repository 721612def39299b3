-- How the issue of an instruction ends.
use Rattle.std.specs.Prelude.{ℕ, Bool, Option, Some, None, List, [], if◌then◌else◌}
use Rattle.xs_base.specs.Numbers.{Slot, Word, Register, ThreadNumber, ChanNumber, NodeId, Identifier}
use Rattle.xs_base.specs.Words.{word_sum}
use Rattle.xs_model.specs.declared.event.Happen.{Happen}
use Rattle.xs_model.specs.declared.thread.Thread.{Thread}
use Rattle.xs_model.specs.declared.thread.Wait.{Wait}
use Rattle.xs_model.specs.declared.traps.TheConstants.{ILLEGAL_RESOURCE, RESOURCE_DEPENDENCY}
use Rattle.xs_model.specs.Threads.{register, with_register}
use Rattle.xs_model.specs.Record.{CoreRec, thread_of, with_thread}
use Rattle.xs_model.specs.Waits.{is_waited_at}

-- where an instruction is issued: the edition of the system, the id of the node, the slot, what the pins show from outside by
-- port, and which channel ends the switch is at work with
pub record Setting : Type 0 where
  pub edition : ℕ  -- 1 or 2
  pub id : NodeId
  pub slot : Slot
  pub outside : List Word
  pub is_busy : ChanNumber → Bool

-- how an issue ends: the core after it, and what happened
pub data Effect : Type 0 where
  Done : (core : CoreRec) (happened : List Happen) → Effect
  Pause : (core : CoreRec) (wait : Wait) (happened : List Happen) → Effect
  -- the trap's number and its data; nothing else changes
  Trap : (number : ℕ) (value : Word) → Effect
  -- the thread is free
  Gone : (core : CoreRec) (happened : List Happen) → Effect

-- ---- The thread that issues

abbrev pub after_it : Thread → Thread
after_it th = record th { pc = word_sum th.pc 4 }

-- a register of the thread that issues
abbrev pub reg : CoreRec → ThreadNumber → Register → Word
reg core k g = register (thread_of core k) g

-- the thread goes on
abbrev pub goes_on : CoreRec → ThreadNumber → CoreRec
goes_on core k = with_thread core k (after_it (thread_of core k))

-- the thread goes on with this word in a register
abbrev pub goes_on_with : CoreRec → ThreadNumber → Register → Word → CoreRec
goes_on_with core k g word = with_thread core k (after_it (with_register (thread_of core k) g word))

-- ---- How its row ends

-- the thread goes on where something holds, and is refused what a word names where it does not
abbrev pub allowed_where : Bool → Identifier → CoreRec → Effect
allowed_where holds name after = if holds then Done after [] else Trap ILLEGAL_RESOURCE name

-- the thread goes on with the core that was left, or it is refused what a word names
abbrev pub goes_on_in : ThreadNumber → Identifier → Option CoreRec → Effect
goes_on_in k name None = Trap ILLEGAL_RESOURCE name
goes_on_in k name (Some after) = Done (goes_on after k) []

-- the thread pauses at what a word names, and traps where another one is paused there
abbrev pub pauses_at : CoreRec → Identifier → Wait → Effect
pauses_at core name wait = if is_waited_at core wait then Trap RESOURCE_DEPENDENCY name else Pause core wait []

-- ---- Rows that work on a part of the core alone

-- what such a row leaves of its part, or how it traps; then nothing changes
pub data Leaving (A : Type 0) : Type 0 where
  Leaves : (after : A) → Leaving A
  Traps : (number : ℕ) (value : Word) → Leaving A

-- a row that traps where something holds, and else leaves this
abbrev pub traps_where : {A : Type 0} → Bool → ℕ → Word → A → Leaving A
traps_where holds number value after = if holds then Traps number value else Leaves after

-- the thread that issues, and the memory
pub record Own : Type 0 where
  pub thread : Thread
  pub memory : List ℕ

abbrev pub own_of : CoreRec → ThreadNumber → Own
own_of core k = record { thread = thread_of core k; memory = core.memory }

abbrev pub with_own : CoreRec → ThreadNumber → Own → CoreRec
with_own core k l = record (with_thread core k l.thread) { memory = l.memory }

-- what a row on the thread and the memory does to the core
abbrev pub on_own : CoreRec → ThreadNumber → Leaving Own → Effect
on_own core k (Leaves l) = Done (with_own core k l) []
on_own core k (Traps number value) = Trap number value

-- what a row on the thread's registers alone does to the core: the thread goes on to its next instruction
abbrev pub on_registers : CoreRec → ThreadNumber → Leaving Thread → Effect
on_registers core k (Leaves th) = Done (with_thread core k (after_it th)) []
on_registers core k (Traps number value) = Trap number value
