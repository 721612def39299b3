-- Programs with timers, events and interrupts, worked out by hand: what a node shows in the slots of its run.
use Rattle.std.specs.Prelude.{ℕ, zero, suc, ◌≡◌, ◌+◌, ◌-◌, ◌/◌, Option, Some, List, [], ◌∷◌, ◌++◌, replicate}
use Rattle.xs_base.specs.Numbers.{Slot, Word}
use Rattle.xs_base.specs.declared.token.Token.TheVariants.{Byte}
use Rattle.xs_model.specs.declared.clock.Clock.TheVariants.{Block}
use Rattle.xs_model.specs.declared.clock.Edge.{Edge}
use Rattle.xs_model.specs.declared.clock.Edge.TheVariants.{Rise, Fall}
use Rattle.xs_model.specs.declared.clock.Edge.TheVariants as edge
use Rattle.xs_model.specs.declared.thread.Thread.{Thread}
use Rattle.xs_model.specs.declared.thread.Run.TheVariants.{Free, Paused}
use Rattle.xs_model.specs.declared.thread.Wait.TheVariants.{Timer, Choice}
use Rattle.xs_model.specs.declared.event.Event.{Event}
use Rattle.xs_model.specs.declared.event.Happen.TheVariants as happen
use Rattle.xs_model.specs.Status.{status}
use Rattle.xs_model.specs.Memory.{load_word}
use Rattle.xs_model.specs.Outside.{in_slot}
use Rattle.xs_model.specs.Time.{edge_at}
use Rattle.xs_model.specs.Record.{NodeRec, first_node, thread_of}
use Rattle.xs_instructions.specs.declared.instr.Instr.{Instr}
use Rattle.xs_instructions.specs.declared.instr.Instr.TheVariants.{Words, Memory, Flow, Kernel, Threads, Resources}
use Rattle.xs_instructions.specs.declared.instr.WordIns.TheVariants as words
use Rattle.xs_instructions.specs.declared.instr.MemIns.TheVariants as memory
use Rattle.xs_instructions.specs.declared.instr.FlowIns.TheVariants as flow
use Rattle.xs_instructions.specs.declared.instr.KernelIns.TheVariants as kernel
use Rattle.xs_instructions.specs.declared.instr.ThreadIns.TheVariants as threads
use Rattle.xs_instructions.specs.declared.instr.ResIns.TheVariants as resources
use Rattle.worked_machine.specs.Slots.{start, first, slot_of}
use Rattle.worked_machine.specs.Turns.{after_from}

-- ---- What is seen of a run

-- a node before a slot, from slot 0 on
abbrev pub before : List Instr → NodeRec → Slot → NodeRec
before code rec slot = after_from code rec 0 slot

-- thread 0 before a slot
abbrev pub thread_before : List Instr → NodeRec → Slot → Thread
thread_before code rec slot = thread_of (before code rec slot).core 0

-- a word of the memory before a slot
abbrev pub word_before : List Instr → NodeRec → Slot → Word → Option Word
word_before code rec slot at = load_word (before code rec slot).core.memory at

-- the place in the code at which thread 0 is
abbrev pub place_of : Thread → ℕ
place_of th = (th.pc - 0x00040000) / 4

-- that place after each of so many groups of four slots, from one on
abbrev pub places_from : List Instr → NodeRec → Slot → ℕ → List ℕ
places_from code rec slot zero = []
places_from code rec slot (suc count) =
    let rec' = after_from code rec slot 4 in place_of (thread_of rec'.core 0) ∷ places_from code rec' (slot + 4) count

-- what happens in so many slots, from one on
abbrev pub events_from : List Instr → NodeRec → Slot → ℕ → List Event
events_from code rec slot zero = []
events_from code rec slot (suc count) =
    let after = slot_of code rec slot in after.emitted.events ++ events_from code after.rec (slot + 1) count

-- ---- A token or the time, whichever comes first

-- main:
--   getr r0, 2
--   setd res[r0], r0
--   getr r1, 1
--   ldap r11, onchan
--   setv res[r0], r11
--   ldap r11, ontime
--   setv res[r1], r11
--   eeu res[r0]
--   eeu res[r1]
--   outt res[r0], r0
--   waiteu
-- onchan:
--   ldc r2, 1
--   bu fin
-- ontime:
--   ldc r2, 2
-- fin:
--   stw r2, dp[0]
--   freet
abbrev pub token_or_time : List Instr
token_or_time =
    Resources (resources.Getr 0 2) ∷ Resources (resources.Setd 0 0) ∷ Resources (resources.Getr 1 1) ∷
    Memory (memory.Ldap 11) ∷ Resources (resources.Setv 0) ∷ Memory (memory.Ldap 13) ∷ Resources (resources.Setv 1) ∷
    Resources (resources.Eeu 0) ∷ Resources (resources.Eeu 1) ∷ Resources (resources.Outt 0 0) ∷ Resources resources.Waiteu ∷
    Words (words.Ldc 2 1) ∷ Flow (flow.Bu 14) ∷
    Words (words.Ldc 2 2) ∷
    Memory (memory.StwDp 2 0) ∷ Threads threads.Freet ∷ []

-- thread 0 when all is set up
abbrev pub set_up : Thread
set_up = record first { r = 0x002 ∷ 0x001 ∷ (replicate 9 0 ++ 0x00040034 ∷ []) }

-- The timer, which has no condition, is ready from the first, and the token comes in slot 37. `waiteu` is issued in slot 40.
pub record WorkedTokenOrTime : Type 0 where
  pub places : places_from token_or_time start 0 16 ≡
      1 ∷ 2 ∷ 3 ∷ 4 ∷ 5 ∷ 6 ∷ 7 ∷ 8 ∷ 9 ∷ 10 ∷ 10 ∷ 11 ∷ 12 ∷ 14 ∷ 15 ∷ 16 ∷ []
  pub events : events_from token_or_time start 0 80 ≡ in_slot 37 (happen.Chan 0 (Byte 2)) ∷ []
  pub waits : thread_before token_or_time start 44 ≡ record set_up { pc = 0x00040028; sr = status 0x41; run = Paused Choice }
  pub taken : thread_before token_or_time start 45 ≡ record set_up { pc = 0x0004002c }
  pub before_store : word_before token_or_time start 56 0x00010000 ≡ Some 0
  pub stored : word_before token_or_time start 57 0x00010000 ≡ Some 1
  pub ended : (thread_before token_or_time start 61).run ≡ Free

-- ---- A timer whose condition holds across the greatest time

-- main:
--   getr r0, 1
--   ldw r1, dp[0]
--   setd res[r0], r1
--   setc res[r0], 9
--   in r2, res[r0]
--   stw r2, dp[1]
--   freet
abbrev pub past_time : List Instr
past_time =
    Resources (resources.Getr 0 1) ∷ Memory (memory.LdwDp 1 0) ∷ Resources (resources.Setd 0 1) ∷
    Resources (resources.SetcImm 0 9) ∷ Resources (resources.In 2 0) ∷ Memory (memory.StwDp 2 1) ∷ Threads threads.Freet ∷ []

-- the first word is 0xfffffff0, or this one
abbrev pub with_first_word : List ℕ → NodeRec
with_first_word bytes = first_node 0x00040000 0x00010000 bytes

abbrev pub long_past : NodeRec
long_past = with_first_word (0xf0 ∷ 0xff ∷ 0xff ∷ 0xff ∷ [])

-- the word is 6: the condition holds from time 7 on
abbrev pub to_come : NodeRec
to_come = with_first_word (6 ∷ 0 ∷ 0 ∷ 0 ∷ [])

pub record WorkedPastTime : Type 0 where
  -- in slot 16 the time is 4, which is 20 after the value: the thread need not wait
  pub done : thread_before past_time long_past 17 ≡ record first { r = 0x001 ∷ 0xfffffff0 ∷ 4 ∷ replicate 9 0; pc = 0x00040014 }
  pub before_store : word_before past_time long_past 20 0x00010004 ≡ Some 0
  pub stored : word_before past_time long_past 21 0x00010004 ≡ Some 4
  pub first_word : word_before past_time long_past 40 0x00010000 ≡ Some 0xfffffff0
  pub ended : (thread_before past_time long_past 25).run ≡ Free
  pub no_event : events_from past_time long_past 0 40 ≡ []
  -- the thread waits from slot 16 on, and goes on in slot 28
  pub waits : thread_before past_time to_come 28 ≡
      record first { r = 0x001 ∷ 6 ∷ replicate 10 0; pc = 0x00040010; run = Paused (Timer 0) }
  pub wakes : thread_before past_time to_come 29 ≡ record first { r = 0x001 ∷ 6 ∷ 7 ∷ replicate 9 0; pc = 0x00040014 }

-- ---- An interrupt while a loop runs

-- main:
--   getr r0, 1
--   ldap r11, tick
--   setv res[r0], r11
--   setc res[r0], 0xa
--   ldc r1, 9
--   setd res[r0], r1
--   setc res[r0], 9
--   eeu res[r0]
--   setsr 2
-- wait:
--   bu wait
-- tick:
--   edu res[r0]
--   stw r1, dp[0]
--   kret
abbrev pub ticks : List Instr
ticks =
    Resources (resources.Getr 0 1) ∷ Memory (memory.Ldap 10) ∷ Resources (resources.Setv 0) ∷
    Resources (resources.SetcImm 0 0xa) ∷ Words (words.Ldc 1 9) ∷ Resources (resources.Setd 0 1) ∷
    Resources (resources.SetcImm 0 9) ∷ Resources (resources.Eeu 0) ∷ Kernel (kernel.Setsr 2) ∷
    Flow (flow.Bu 9) ∷
    Resources (resources.Edu 0) ∷ Memory (memory.StwDp 1 0) ∷ Kernel kernel.Kret ∷ []

abbrev pub in_loop : Thread
in_loop = record first { r = 0x001 ∷ 9 ∷ (replicate 9 0 ++ 0x00040028 ∷ []); pc = 0x00040024; sr = status 2 }

abbrev pub in_tick : Thread
in_tick = record in_loop { pc = 0x00040028; sr = status 8; spc = 0x00040024; ssr = status 2 }

-- the condition holds from time 10 on, in slot 40: the interrupt takes that slot in place of the branch
pub record WorkedTicks : Type 0 where
  pub places : places_from ticks start 0 16 ≡
      1 ∷ 2 ∷ 3 ∷ 4 ∷ 5 ∷ 6 ∷ 7 ∷ 8 ∷ 9 ∷ 9 ∷ 10 ∷ 11 ∷ 12 ∷ 9 ∷ 9 ∷ 9 ∷ []
  pub loops : thread_before ticks start 40 ≡ in_loop
  pub taken : thread_before ticks start 41 ≡ in_tick
  pub before_store : word_before ticks start 48 0x00010000 ≡ Some 0
  pub stored : word_before ticks start 49 0x00010000 ≡ Some 9
  -- spc and ssr stay, and no second interrupt comes
  pub back : thread_before ticks start 53 ≡ record in_loop { spc = 0x00040024; ssr = status 2 }
  pub loops_again : thread_before ticks start 60 ≡ record in_loop { spc = 0x00040024; ssr = status 2 }
  pub no_event : events_from ticks start 0 60 ≡ []

-- ---- A clock block that is started and stopped

-- main:
--   setc res[r0], 8
--   setd res[r0], r1
--   setc res[r0], 0xf
--   nop
--   nop
--   nop
--   setc res[r0], 7
abbrev pub clock_code : List Instr
clock_code =
    Resources (resources.SetcImm 0 8) ∷ Resources (resources.Setd 0 1) ∷ Resources (resources.SetcImm 0 0xf) ∷
    Words words.Nop ∷ Words words.Nop ∷ Words words.Nop ∷ Resources (resources.SetcImm 0 7) ∷ []

-- clock block 5 gets the divider 1
abbrev pub clock_node : NodeRec
clock_node = record start {
  core = record start.core {
    threads = record first { r = 0x506 ∷ 1 ∷ replicate 10 0 } ∷ replicate 7 (thread_of start.core 7);
  };
}

-- the block's edges in so many slots, from one on: each as the slot finds the block
abbrev pub edges_from : NodeRec → Slot → ℕ → List Edge
edges_from rec slot zero = []
edges_from rec slot (suc count) = edge_at rec.core.clocks (Block 5) slot ∷ edges_from (slot_of clock_code rec slot).rec (slot + 1) count

pub record WorkedStarted : Type 0 where
  -- It is started in slot 8, and stopped in slot 24. It would rise in slot 8, which finds it stopped, and rises in slot 24.
  pub edges : edges_from clock_node 0 33 ≡
      replicate 12 edge.None ++
      (Fall ∷ edge.None ∷ edge.None ∷ edge.None ∷ Rise ∷ edge.None ∷ edge.None ∷ edge.None ∷
      Fall ∷ edge.None ∷ edge.None ∷ edge.None ∷ Rise ∷ replicate 8 edge.None)

pub record WorkedTimeRuns : Type 0 where
  pub token_or_time : WorkedTokenOrTime
  pub past_time : WorkedPastTime
  pub ticks : WorkedTicks
  pub started : WorkedStarted
