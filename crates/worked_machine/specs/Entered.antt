-- What a slot does with an event or an interrupt, worked out by hand: slot 10.
use Rattle.std.specs.Prelude.{ℕ, ◌≡◌, ◌+◌, Bool, true, false, Some, List, [], ◌∷◌, replicate}
use Rattle.xs_base.specs.declared.token.Token.TheVariants.{Byte, Ctrl}
use Rattle.xs_model.specs.declared.thread.Thread.{Thread}
use Rattle.xs_model.specs.declared.thread.Run.{Run}
use Rattle.xs_model.specs.declared.thread.Run.TheVariants.{Free, Unstarted, AtSync, Going, Halted, Paused}
use Rattle.xs_model.specs.declared.thread.Wait.{Wait}
use Rattle.xs_model.specs.declared.thread.Wait.TheVariants.{Room, Tokens, PortFull, Timer, Lock, Slaves, Choice, Divider}
use Rattle.xs_model.specs.declared.event.Event.{Event}
use Rattle.xs_model.specs.declared.event.Happen.TheVariants as happen
use Rattle.xs_model.specs.Status.{status}
use Rattle.xs_model.specs.Outside.{in_slot}
use Rattle.xs_model.specs.Record.{NodeRec, EnablingRec, Local, unused_chan, unused_sync, unused_lock, not_enabled, thread_of}
use Rattle.xs_instructions.specs.declared.instr.Instr.{Instr}
use Rattle.xs_instructions.specs.declared.instr.Instr.TheVariants.{Words, Kernel, Resources}
use Rattle.xs_instructions.specs.declared.instr.WordIns.TheVariants as words
use Rattle.xs_instructions.specs.declared.instr.KernelIns.TheVariants as kernel
use Rattle.xs_instructions.specs.declared.instr.ResIns.TheVariants as resources
use Rattle.net_model.specs.Chans.{got_chan}
use Rattle.net_model.specs.Switch.{with_state}
use Rattle.worked_machine.specs.Slots.{start, first, idle, slot_of, with_three}
use Rattle.worked_machine.specs.Channels.{chkct_end}
use Rattle.worked_machine.specs.Turns.{after_from}
use Rattle.worked_machine.specs.Threads.{other, in_10, leaves, by_0}
use Rattle.worked_machine.specs.Timers.{timer}
use Rattle.worked_machine.specs.EventRows.{waiteu}

-- ---- A thread that takes one, in place of an instruction

-- thread 0 enabled it, for events or for interrupts
abbrev pub given : Bool → ℕ → EnablingRec
given interrupt vector = record { vector = vector; environment = 44; interrupt = interrupt; thread = Some 0 }

-- Channel end 0 has a token, and gives this. Nothing that thread 0 may wait for holds: channel end 1 has no token; the
-- output of channel end 2 is full, and goes to channel end 3, which is full; the condition of timer 1 does not hold; thread
-- 1 owns lock 2; a slave of synchroniser 1 is halted; and the core divided in slot 8.
abbrev pub stuck : EnablingRec → Thread → NodeRec
stuck e mine = with_state (record start {
  core = record start.core {
    threads = mine ∷ replicate 7 (other Halted);
    slots = record start.core.slots { division = Some 8 };
    chans = record got_chan { input = Byte 5 ∷ [] } ∷ got_chan ∷ record got_chan { dest = Some 0x302; output = replicate 8 (Byte 6) } ∷
        record got_chan { input = replicate 8 (Byte 7) } ∷ replicate 28 unused_chan;
    timers = replicate 10 (timer 2 true);
    syncs = unused_sync ∷ record { master = Some 0; slaves = 5 ∷ [] } ∷ replicate 5 unused_sync;
    locks = unused_lock ∷ unused_lock ∷ record { used = true; owner = Some 1 } ∷ unused_lock ∷ [];
    enabled = record { chans = e ∷ replicate 31 not_enabled; timers = replicate 10 not_enabled; ports = replicate 29 not_enabled };
  };
}) 10 (Local 3)

-- its registers of traps are all different
abbrev pub before : ℕ → Run → Thread
before bits run = record (with_three 1 2 3) { spc = 0x00040aaa; ssr = status 0x10; et = 2; ed = 6; sed = 7; kep = 0x00040000; sr = status bits; run = run }

abbrev pub add_one : Instr
add_one = Words (words.AddImm 0 0 1)

-- it takes the event: all that it would return to is left, and nothing is executed
abbrev pub TakesEvent : Run → Type 0
TakesEvent run =
    in_10 add_one (stuck (given false 0x00040008) (before 0xd5 run)) ≡
    leaves by_0 (stuck (given false 0x00040008) (record (before 0x90 Going) { pc = 0x00040008; ed = 44 }))

-- it takes the interrupt
abbrev pub TakesInterrupt : Run → Type 0
TakesInterrupt run =
    in_10 add_one (stuck (given true 0x00040008) (before 0xd7 run)) ≡
    leaves by_0 (stuck (given true 0x00040008) (record (before 0x98 Going) { pc = 0x00040008; ed = 44; spc = 0x00040000; ssr = status 0xd7; sed = 6 }))

-- nothing is taken where its status does not let it in
abbrev pub Stays : Run → Type 0
Stays run =
    in_10 add_one (stuck (given true 0x00040008) (before 0xdd run)) ≡ idle (stuck (given true 0x00040008) (before 0xdd run))

-- whatever the thread is paused for, an event and an interrupt end it for good
pub record Ends (wait : Wait) : Type 0 where
  pub event : TakesEvent (Paused wait)
  pub interrupt : TakesInterrupt (Paused wait)
  pub not_let_in : Stays (Paused wait)

pub record WorkedPauses : Type 0 where
  pub room : Ends (Room 2 1)
  pub tokens : Ends (Tokens 1 1)
  pub port : Ends (PortFull 4)
  pub timer : Ends (Timer 1)
  pub lock : Ends (Lock 2)
  pub slaves : Ends (Slaves 1)
  pub choice : Ends Choice
  pub divider : Ends Divider

-- nothing is taken for a thread that does this, with all bits of its status
abbrev pub TakesNothing : Run → Type 0
TakesNothing run =
    in_10 add_one (stuck (given true 0x00040008) (before 0xdf run)) ≡ idle (stuck (given true 0x00040008) (before 0xdf run))

pub record WorkedTaken : Type 0 where
  pub event : TakesEvent Going
  pub interrupt : TakesInterrupt Going
  -- without its bit the instruction is executed
  pub not_let_in : in_10 add_one (stuck (given false 0x00040008) (before 0xde Going)) ≡
      leaves by_0 (stuck (given false 0x00040008) (record (before 0xde Going) { r = 2 ∷ 2 ∷ 3 ∷ replicate 9 0; pc = 0x00040004 }))
  pub free : TakesNothing Free
  pub unstarted : TakesNothing Unstarted
  pub at_sync : TakesNothing AtSync
  pub halted : TakesNothing Halted

-- ---- A token that comes in the slot itself

-- thread 0 waits for an event of channel end 0, which sends END to itself
abbrev pub sends_to_itself : Thread → NodeRec
sends_to_itself mine = record start {
  core = record start.core {
    threads = mine ∷ replicate 7 (other Halted);
    chans = record got_chan { dest = Some 0x002; output = Ctrl 1 ∷ [] } ∷ replicate 31 unused_chan;
    enabled = record { chans = given false 0x00040008 ∷ replicate 31 not_enabled; timers = replicate 10 not_enabled; ports = replicate 29 not_enabled };
  };
}

pub record WorkedTokenComes : Type 0 where
  pub told : (in_10 add_one (sends_to_itself (before 0x41 (Paused Choice)))).emitted.events ≡ in_slot 10 (happen.Chan 0 (Ctrl 1)) ∷ []
  pub taken : thread_of (in_10 add_one (sends_to_itself (before 0x41 (Paused Choice)))).rec.core 0 ≡
      record (before 0 Going) { pc = 0x00040008; ed = 44 }

-- ---- An interrupt while a thread is paused, and the way back

-- a paused instruction, and a handler that disables the timer and returns
abbrev pub interrupted : Instr → List Instr
interrupted ins = ins ∷ Resources (resources.Edu 1) ∷ Kernel kernel.Kret ∷ []

-- thread 0 is paused at the first instruction, and timer 0, which is ready, gives it an interrupt; thread 1 is this
abbrev pub paused_at : Wait → ℕ → Thread → NodeRec
paused_at wait bits one = record start {
  core = record start.core {
    threads = record (with_three 0x102 0x001 0) { sr = status bits; ed = 6; run = Paused wait } ∷ one ∷ replicate 6 (other Halted);
    chans = unused_chan ∷ got_chan ∷ replicate 30 unused_chan;
    timers = timer 0 false ∷ replicate 9 (timer 2 true);
    enabled = record { chans = replicate 32 not_enabled; timers = given true 0x00040004 ∷ replicate 9 not_enabled; ports = replicate 29 not_enabled };
  };
}

abbrev pub at_token : NodeRec
at_token = paused_at (Tokens 1 1) 2 (other Halted)

abbrev pub at_waiteu : NodeRec
at_waiteu = paused_at Choice 0x43 (other Halted)

-- thread 0 after so many slots, from slot 10 on
abbrev pub thread_after : Instr → NodeRec → ℕ → Thread
thread_after ins rec slots = thread_of (after_from (interrupted ins) rec 10 slots).core 0

-- thread 0 in the handler, and then with this pc, these status bits and these in ed
abbrev pub in_handler : ℕ → ℕ → ℕ → ℕ → Run → Thread
in_handler kept pc bits ed run = record (with_three 0x102 0x001 0) {
  pc = pc;
  sr = status bits;
  ed = ed;
  spc = 0x00040000;
  ssr = status kept;
  sed = 6;
  run = run;
}

-- thread 1 comes to the same instruction in slot 11
abbrev pub second_comes : NodeRec
second_comes = paused_at (Tokens 1 1) 2 (with_three 0x102 0x001 0)

pub record WorkedReturn : Type 0 where
  -- slots 10, 14, 18 and 22: the paused instruction is issued anew, and pauses the thread again
  pub interrupt : thread_after chkct_end at_token 4 ≡ in_handler 2 0x00040004 8 44 Going
  pub handler : thread_after chkct_end at_token 8 ≡ in_handler 2 0x00040008 8 44 Going
  pub back : thread_after chkct_end at_token 12 ≡ in_handler 2 0x00040000 2 6 Going
  pub paused_again : thread_after chkct_end at_token 13 ≡ in_handler 2 0x00040000 2 6 (Paused (Tokens 1 1))
  -- the bit that says that it waits goes, and comes back
  pub interrupt_in_wait : thread_after waiteu at_waiteu 4 ≡ in_handler 0x43 0x00040004 8 44 Going
  pub back_in_wait : thread_after waiteu at_waiteu 12 ≡ in_handler 0x43 0x00040000 0x43 6 Going
  pub waits_again : thread_after waiteu at_waiteu 13 ≡ in_handler 0x43 0x00040000 0x43 6 (Paused Choice)
  -- with all its tests: meanwhile another thread is paused there
  pub other_is_paused : (thread_of (after_from (interrupted chkct_end) second_comes 10 12).core 1).run ≡ Paused (Tokens 1 1)
  pub traps : (slot_of (interrupted chkct_end) (after_from (interrupted chkct_end) second_comes 10 12) 22).emitted.events ≡
      in_slot 22 (happen.Trap 0 9 0x00040000 0x102) ∷ in_slot 22 (happen.Halt 0) ∷ []

-- ---- A vector at which no code stands

abbrev pub far : Bool → NodeRec
far interrupt = stuck (given interrupt 0x00001234) (record first { sr = status 3 })

abbrev pub events_of : Bool → ℕ → List Event
events_of interrupt count = (slot_of (add_one ∷ []) (after_from (add_one ∷ []) (far interrupt) 10 count) (10 + count)).emitted.events

-- it is taken in slot 10, and the thread traps in slot 14
pub record WorkedNoCode : Type 0 where
  pub event : thread_of (in_10 add_one (far false)).rec.core 0 ≡ record first { pc = 0x00001234; ed = 44; sr = status 2 }
  pub event_tells_nothing : events_of false 0 ≡ []
  pub event_traps : events_of false 4 ≡ in_slot 14 (happen.Trap 0 2 0x00001234 0x00001234) ∷ in_slot 14 (happen.Halt 0) ∷ []
  pub interrupt_tells_nothing : events_of true 0 ≡ []
  pub interrupt_traps : events_of true 4 ≡ in_slot 14 (happen.Trap 0 2 0x00001234 0x00001234) ∷ in_slot 14 (happen.Halt 0) ∷ []

pub record WorkedEntered : Type 0 where
  pub taken : WorkedTaken
  pub pauses : WorkedPauses
  pub token_comes : WorkedTokenComes
  pub return : WorkedReturn
  pub no_code : WorkedNoCode
