-- Slots worked out by hand: what a node keeps after its first slots, for small code.
use Rattle.std.specs.Prelude.{ℕ, zero, suc, ◌≡◌, false, Some, None, List, [], ◌∷◌, replicate}
use Rattle.xs_model.specs.declared.thread.Thread.{Thread}
use Rattle.xs_model.specs.declared.thread.Run.TheVariants.{Free, Paused, Halted}
use Rattle.xs_model.specs.declared.thread.Wait.TheVariants.{Tokens, Choice}
use Rattle.xs_model.specs.declared.event.Event.{Event}
use Rattle.xs_model.specs.declared.event.Happen.TheVariants as happen
use Rattle.xs_model.specs.declared.outside.Arrivals.{Arrivals}
use Rattle.xs_model.specs.declared.outside.PinView.{PinView}
use Rattle.xs_model.specs.Threads.{first_thread}
use Rattle.xs_model.specs.Record.{NodeRec, first_node, free_thread, thread_of, with_thread, never_divided}
use Rattle.xs_model.specs.Syncs.{with_slave}
use Rattle.xs_model.specs.Outside.{emitted_events, in_slot, low_pins}
use Rattle.xs_instructions.specs.declared.instr.Instr.{Instr}
use Rattle.xs_instructions.specs.declared.instr.Instr.TheVariants.{Words, Memory, Threads}
use Rattle.xs_instructions.specs.declared.instr.WordIns.TheVariants as words
use Rattle.xs_instructions.specs.declared.instr.MemIns.TheVariants as memory
use Rattle.xs_instructions.specs.declared.instr.ThreadIns.TheVariants as threads
use Rattle.step_model.specs.Fixed.{Fixed}
use Rattle.step_model.specs.Step.{Stepped, node_step}

-- a node of this code, with no network
abbrev pub node_of_code : List Instr → Fixed
node_of_code code = record { edition = 1; code = code; routes = record { id = 0; ways = replicate 16 0; nets = replicate 8 0; gaps = replicate 8 0 } }

-- nothing comes from outside
abbrev pub no_arrivals : Arrivals
no_arrivals = record { tokens = replicate 8 None; credits = replicate 8 false }

-- what one slot leaves and gives
abbrev pub slot_of : List Instr → NodeRec → ℕ → Stepped
slot_of code rec slot = node_step (node_of_code code) rec slot no_arrivals low_pins

-- the node after so many slots, from slot 0 on
abbrev pub after_slots : List Instr → NodeRec → ℕ → NodeRec
after_slots code rec zero = rec
after_slots code rec (suc slot) = (slot_of code (after_slots code rec slot) slot).rec

-- a slot that changes nothing and gives nothing
abbrev pub idle : NodeRec → Stepped
idle rec = record { rec = rec; emitted = emitted_events [] }

-- a node as it starts, with no data: thread 0 is at the first instruction
abbrev pub start : NodeRec
start = first_node 0x00040000 0x00010000 []

abbrev pub first : Thread
first = first_thread 0x00040000 0x00010000

-- the same node with this for thread 0, and with this for thread 1
abbrev pub start_as : Thread → NodeRec
start_as th = record start { core = with_thread start.core 0 th }

abbrev pub start_two : Thread → NodeRec
start_two th = record start { core = with_thread start.core 1 th }

-- thread 0 after so many slots
abbrev pub thread_after : List Instr → NodeRec → ℕ → Thread
thread_after code rec slots = thread_of (after_slots code rec slots).core 0

abbrev pub events_of : List Instr → NodeRec → ℕ → List Event
events_of code rec slot = (slot_of code (after_slots code rec slot) slot).emitted.events

-- r0 to r11: these three and zeros
abbrev pub three_and_zeros : ℕ → ℕ → ℕ → List ℕ
three_and_zeros a b c = a ∷ b ∷ c ∷ replicate 9 0

-- thread 0 with these in r0 to r2
abbrev pub with_three : ℕ → ℕ → ℕ → Thread
with_three a b c = record first { r = three_and_zeros a b c }

-- A lone thread issues in slot 0 and then rests for three slots.
abbrev pub constants : List Instr
constants = Words (words.Ldc 0 5) ∷ Words (words.Ldc 11 65535) ∷ []

pub record WorkedIssues : Type 0 where
  pub threads : (after_slots constants start 1).core.threads ≡ record first { r = 5 ∷ replicate 11 0; pc = 0x00040004 } ∷ replicate 7 free_thread
  pub last : (after_slots constants start 1).core.slots.last ≡ Some 0 ∷ replicate 7 None
  pub no_event : events_of constants start 0 ≡ []
  pub rests_in_slot_1 : slot_of constants (after_slots constants start 1) 1 ≡ idle (after_slots constants start 1)
  pub rests_in_slot_2 : slot_of constants (after_slots constants start 2) 2 ≡ idle (after_slots constants start 1)
  pub rests_in_slot_3 : slot_of constants (after_slots constants start 3) 3 ≡ idle (after_slots constants start 1)
  pub next : thread_after constants start 5 ≡ record first { r = 5 ∷ 0 ∷ 0 ∷ 0 ∷ 0 ∷ 0 ∷ 0 ∷ 0 ∷ 0 ∷ 0 ∷ 0 ∷ 65535 ∷ []; pc = 0x00040008 }
  pub last_next : (after_slots constants start 5).core.slots.last ≡ Some 4 ∷ replicate 7 None
  -- two threads that go issue in turn, thread 0 first
  pub two_threads : (after_slots constants (start_two first) 2).core.slots.last ≡ Some 0 ∷ Some 1 ∷ replicate 6 None
  pub second_thread : thread_of (after_slots constants (start_two first) 2).core 1 ≡ record first { r = 5 ∷ replicate 11 0; pc = 0x00040004 }
  -- from slot 4 on again: thread 0 has waited longer
  pub turns : (after_slots constants (start_two first) 5).core.slots.last ≡ Some 4 ∷ Some 1 ∷ replicate 6 None
  -- a pause that holds ends with the issue: no token is wanted
  pub pause_over : thread_after constants (start_as (record first { run = Paused (Tokens 0 0) })) 1 ≡ record first { r = 5 ∷ replicate 11 0; pc = 0x00040004 }
  -- a token is wanted and none is there; an event is wanted and none comes
  pub pause_for_token : slot_of constants (start_as (record first { run = Paused (Tokens 0 1) })) 0 ≡ idle (start_as (record first { run = Paused (Tokens 0 1) }))
  pub pause_for_event : slot_of constants (start_as (record first { run = Paused Choice })) 0 ≡ idle (start_as (record first { run = Paused Choice }))
  pub no_operation : thread_after (Words words.Nop ∷ []) start 1 ≡ record first { pc = 0x00040004 }

-- thread 0 halted in a trap at pc 0x00040000
abbrev pub halted : Thread → ℕ → ℕ → Thread
halted th number value = record th {
  spc = 0x00040000;
  ssr = record { bits = 0 };
  sed = 0;
  et = number;
  ed = value;
  sr = record { bits = 0x10 };
  pc = 0;
  run = Halted;
}

abbrev pub trap_and_halt : ℕ → ℕ → List Event
trap_and_halt number value = in_slot 0 (happen.Trap 0 number 0x00040000 value) ∷ in_slot 0 (happen.Halt 0) ∷ []

-- thread 0 past the code's end, with a handler at the first instruction; all bits of its status are set
abbrev pub handled : Thread
handled = record first { pc = 0x00040004; kep = 0x00040000; ksp = 8; sr = record { bits = 0xdf }; ed = 6; et = 7; spc = 4 }

abbrev pub one_nop : List Instr
one_nop = Words words.Nop ∷ []

abbrev pub load_at_1 : List Instr
load_at_1 = Memory (memory.LdwDp 3 1) ∷ []

abbrev pub store_at_1 : List Instr
store_at_1 = Memory (memory.StwDp 3 1) ∷ []

abbrev pub dp_at : ℕ → Thread
dp_at at = record first { dp = at }

pub record WorkedTraps : Type 0 where
  pub no_code : after_slots [] start 1 ≡
      record (start_as (halted first 2 0x00040000)) { core = record (start_as (halted first 2 0x00040000)).core { slots = never_divided (Some 0 ∷ replicate 7 None) } }
  pub no_code_events : (slot_of [] start 0).emitted ≡ emitted_events (trap_and_halt 2 0x00040000)
  pub halted_stays : slot_of [] (after_slots [] start 4) 4 ≡ idle (after_slots [] start 1)
  -- 0xfffffffc + 4 is 0
  pub bad_load : thread_after load_at_1 (start_as (dp_at 0xfffffffc)) 1 ≡ halted (dp_at 0xfffffffc) 5 0
  pub bad_load_events : events_of load_at_1 (start_as (dp_at 0xfffffffc)) 0 ≡ trap_and_halt 5 0
  pub bad_store : after_slots store_at_1 (start_as (dp_at 0x0001fffc)) 1 ≡
      record (start_as (halted (dp_at 0x0001fffc) 5 0x00020000)) { core = record (start_as (halted (dp_at 0x0001fffc) 5 0x00020000)).core { slots = never_divided (Some 0 ∷ replicate 7 None) } }
  pub bad_store_events : events_of store_at_1 (start_as (dp_at 0x0001fffc)) 0 ≡ trap_and_halt 5 0x00020000
  pub unaligned : events_of load_at_1 (start_as (dp_at 0x00010002)) 0 ≡ trap_and_halt 5 0x00010006
  pub below : events_of store_at_1 (start_as (dp_at 0x0000fff8)) 0 ≡ trap_and_halt 5 0x0000fffc
  -- eeble, ieble and waiting are cleared, the other bits stay; the handler goes on
  pub handler : thread_after one_nop (start_as handled) 1 ≡
      record handled { spc = 0x00040004; ssr = record { bits = 0xdf }; sed = 6; et = 2; ed = 0x00040004; sr = record { bits = 0x9c }; pc = 0x00040000 }
  pub handler_event : events_of one_nop (start_as handled) 0 ≡ in_slot 0 (happen.Trap 0 2 0x00040004 0x00040004) ∷ []
  pub handler_goes_on : (thread_after one_nop (start_as handled) 5).pc ≡ 0x00040004
  -- an address between two instructions is no place of one
  pub between : events_of (Words words.Nop ∷ one_nop) (start_as (record first { pc = 0x00040002 })) 0 ≡ in_slot 0 (happen.Trap 0 2 0x00040002 0x00040002) ∷ in_slot 0 (happen.Halt 0) ∷ []
  -- in the slot in which it happens
  pub in_slot_4 : events_of one_nop start 4 ≡ in_slot 4 (happen.Trap 0 2 0x00040004 0x00040004) ∷ in_slot 4 (happen.Halt 0) ∷ []

abbrev pub free_at_once : List Instr
free_at_once = Threads threads.Freet ∷ []

-- the pins of port 2 show 1, the others 0
abbrev pub one_high : PinView
one_high = record { level = 0 ∷ 0 ∷ 1 ∷ replicate 26 0 }

pub record WorkedEnd : Type 0 where
  pub free : thread_after free_at_once start 1 ≡ record first { pc = 0x00040004; run = Free }
  pub no_event : events_of free_at_once start 0 ≡ []
  pub stays : slot_of free_at_once (after_slots free_at_once start 4) 4 ≡ idle (after_slots free_at_once start 1)
  -- what the pins show is noted at the end of the slot
  pub levels : (node_step (node_of_code free_at_once) start 0 no_arrivals one_high).rec.levels ≡ one_high.level
  -- slaves stay in ascending order
  pub slaves : with_slave 3 (1 ∷ 5 ∷ []) ≡ 1 ∷ 3 ∷ 5 ∷ []
  pub first_slave : with_slave 3 [] ≡ 3 ∷ []
