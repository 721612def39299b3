-- What waits hold and at which thing a thread waits, worked out by hand; when the divider is free for a thread; and the
-- levels of pins that a port drives.
use Rattle.std.specs.Prelude.{ℕ, ◌≡◌, Bool, true, false, Option, Some, None, List, [], ◌∷◌, ◌++◌, replicate, slice_set}
use Rattle.xs_base.specs.Numbers.{Slot}
use Rattle.xs_base.specs.declared.token.Token.{Token}
use Rattle.xs_base.specs.declared.token.Token.TheVariants.{Byte, Ctrl}
use Rattle.xs_model.specs.declared.outside.PinView.{PinView}
use Rattle.xs_model.specs.declared.thread.Thread.{Thread}
use Rattle.xs_model.specs.declared.thread.Run.{Run}
use Rattle.xs_model.specs.declared.thread.Run.TheVariants.{Unstarted, AtSync, Going, Paused, Halted}
use Rattle.xs_model.specs.declared.thread.Wait.{Wait}
use Rattle.xs_model.specs.declared.thread.Wait.TheVariants.{Room, Tokens, PortFull, PortEmpty, PortIdle, Timer, Lock, Slaves, Choice, Divider}
use Rattle.xs_model.specs.Threads.{fresh_thread}
use Rattle.xs_model.specs.Record.{CoreRec, NodeRec, PortRec, TransferRec, SlotsRec, unused_chan, off_port, free_thread, thread_of, with_thread, with_chan, with_last}
use Rattle.xs_model.specs.Waits.{holds, is_waited_at}
use Rattle.xs_model.specs.Picks.{eligible}
use Rattle.step_model.specs.Effect.{Pause, pauses_at}
use Rattle.step_model.specs.ThreadRows.{with_got_thread}
use Rattle.step_model.specs.Step.{node_step}
use Rattle.worked_machine.specs.Slots.{start, first, idle, slot_of, one_nop, node_of_code, no_arrivals}
use Rattle.worked_machine.specs.Turns.{nobody, issuers_from}

-- a timer with the condition after x: whether it holds in slots 16 to 19, whose time is 4
abbrev pub after_holds : ℕ → ℕ → Bool
after_holds x slot = holds (record start.core { timers = slice_set start.core.timers 2 (record { used = true; value = x; after = true }) }) slot (Timer 2)

abbrev pub some_bits : TransferRec
some_bits = record { value = 5; bits = 4; time = None }

-- port 16 with these
abbrev pub port_core : PortRec → CoreRec
port_core port = record start.core { ports = slice_set start.core.ports 16 port }

abbrev pub on_port : PortRec
on_port = record off_port { on = true }

abbrev pub tokens_core : List Token → List Token → CoreRec
tokens_core output input = with_chan start.core 5 (record unused_chan { used = true; dest = Some 2; output = output; input = input })

-- synchroniser 1 with threads 2 and 3 as slaves, which do this
abbrev pub slaves_core : Run → Run → CoreRec
slaves_core two three =
    record (with_thread (with_thread start.core 2 (record fresh_thread { run = two })) 3 (record fresh_thread { run = three }))
    { syncs = slice_set start.core.syncs 1 (record { master = Some 0; slaves = 2 ∷ 3 ∷ [] }) }

pub record WorkedWaits : Type 0 where
  pub timer_after : after_holds 3 16 ≡ true
  pub timer_equal : after_holds 4 16 ≡ false
  pub timer_before : after_holds 5 19 ≡ false
  pub timer_wrapped : after_holds 0xfffffff0 16 ≡ true
  pub timer_half : after_holds 0x80000004 16 ≡ false
  pub timer_less_than_half : after_holds 0x80000005 16 ≡ true
  pub timer_next_step : after_holds 4 20 ≡ true
  pub timer_without : holds start.core 16 (Timer 0) ≡ true
  pub full : holds (port_core (record on_port { transfer = Some some_bits })) 0 (PortFull 16) ≡ true
  pub not_full : holds (port_core on_port) 0 (PortFull 16) ≡ false
  pub empty : holds (port_core (record on_port { shift = 1 ∷ [] })) 0 (PortEmpty 16) ≡ true
  pub not_empty : holds (port_core (record on_port { transfer = Some some_bits })) 0 (PortEmpty 16) ≡ false
  pub idle : holds (port_core (record on_port { output = true })) 0 (PortIdle 16) ≡ true
  pub idle_input : holds (port_core (record on_port { transfer = Some some_bits; shift = 1 ∷ [] })) 0 (PortIdle 16) ≡ true
  pub shifts : holds (port_core (record on_port { output = true; shift = 1 ∷ [] })) 0 (PortIdle 16) ≡ false
  pub transfers : holds (port_core (record on_port { output = true; transfer = Some some_bits })) 0 (PortIdle 16) ≡ false
  pub free_lock : holds (record start.core { locks = slice_set start.core.locks 3 (record { used = true; owner = None }) }) 0 (Lock 3) ≡ true
  pub owned_lock : holds (record start.core { locks = slice_set start.core.locks 3 (record { used = true; owner = Some 0 }) }) 0 (Lock 3) ≡ false
  pub slaves_in : holds (slaves_core Unstarted AtSync) 0 (Slaves 1) ≡ true
  pub slave_goes : holds (slaves_core AtSync Going) 0 (Slaves 1) ≡ false
  pub slave_halted : holds (slaves_core Halted AtSync) 0 (Slaves 1) ≡ false
  pub slave_paused : holds (slaves_core (Paused Choice) AtSync) 0 (Slaves 1) ≡ false
  pub no_slaves : holds start.core 0 (Slaves 1) ≡ true
  pub choice : holds start.core 0 Choice ≡ false
  pub room : holds (tokens_core (replicate 4 (Byte 1)) []) 0 (Room 5 4) ≡ true
  pub no_room : holds (tokens_core (replicate 5 (Byte 1)) []) 0 (Room 5 4) ≡ false
  pub four : holds (tokens_core [] (replicate 4 (Byte 1))) 0 (Tokens 5 4) ≡ true
  pub three : holds (tokens_core [] (replicate 3 (Byte 1))) 0 (Tokens 5 4) ≡ false
  pub control_third : holds (tokens_core [] (Byte 1 ∷ Byte 2 ∷ Ctrl 1 ∷ [])) 0 (Tokens 5 4) ≡ true

-- whether thread 1, which waits for this, is where a thread would wait for that
abbrev pub is_there : Wait → Wait → Bool
is_there this that = is_waited_at (with_thread start.core 1 (record fresh_thread { run = Paused this })) that

pub record WorkedThings : Type 0 where
  pub port : is_there (PortIdle 3) (PortFull 3) ≡ true
  pub port_empty : is_there (PortFull 3) (PortEmpty 3) ≡ true
  pub other_port : is_there (PortIdle 3) (PortIdle 4) ≡ false
  pub timer : is_there (Timer 3) (Timer 3) ≡ true
  pub other_timer : is_there (Timer 3) (Timer 4) ≡ false
  pub timer_and_port : is_there (Timer 3) (PortFull 3) ≡ false
  pub counts : is_there (Tokens 3 4) (Tokens 3 1) ≡ true
  pub room_counts : is_there (Room 3 1) (Room 3 4) ≡ true
  pub sides : is_there (Tokens 3 1) (Room 3 1) ≡ false
  pub locks : is_there (Lock 3) (Lock 3) ≡ false
  pub slaves : is_there (Slaves 3) (Slaves 3) ≡ false
  pub choices : is_there Choice Choice ≡ false
  pub dividers : is_there Divider Divider ≡ false
  pub divider_and_lock : is_there Divider (Lock 0) ≡ false
  pub timer_and_divider : is_there (Timer 0) Divider ≡ false

-- ---- The divider

-- a thread that waits for it
abbrev pub at_divider : Thread
at_divider = record first { run = Paused Divider }

-- threads 0 and 1 do, and no other is there; the core divided last in this slot, or never
abbrev pub divided : Option Slot → NodeRec
divided division = record start {
  core = record start.core {
    threads = at_divider ∷ at_divider ∷ replicate 6 free_thread;
    slots = record start.core.slots { division = division };
  };
}

abbrev pub in_8 : NodeRec
in_8 = divided (Some 8)

-- the last issues, and the division in slot 8
abbrev pub last_and_8 : List (Option Slot) → SlotsRec
last_and_8 last = record { last = last; division = Some 8 }

pub record WorkedDivider : Type 0 where
  -- it is not free in slot 8 and in the 31 slots after it
  pub same_slot : eligible in_8.core 0 8 ≡ false
  pub slot_39 : eligible in_8.core 0 39 ≡ false
  pub slot_40 : eligible in_8.core 0 40 ≡ true
  pub slot_41 : eligible in_8.core 1 41 ≡ true
  pub never : eligible (divided None).core 0 0 ≡ true
  -- a division in slot 0 is one
  pub in_slot_0 : eligible (divided (Some 0)).core 0 31 ≡ false
  pub after_slot_0 : eligible (divided (Some 0)).core 0 32 ≡ true
  -- both wait until then, and issue anew, one after the other
  pub waits : slot_of one_nop in_8 39 ≡ idle in_8
  pub issuers : issuers_from one_nop in_8 38 4 ≡ nobody ∷ nobody ∷ 0 ∷ 1 ∷ []
  pub goes_on : thread_of (slot_of one_nop in_8 40).rec.core 0 ≡ record first { pc = 0x00040004 }
  pub other_waits_on : thread_of (slot_of one_nop in_8 40).rec.core 1 ≡ at_divider
  -- a second thread may wait for it: that is no trap
  pub second : pauses_at in_8.core 7 Divider ≡ Pause in_8.core Divider []
  -- an issue, and a thread that is got, leave the slot of the last division
  pub issue : (slot_of one_nop in_8 40).rec.core.slots ≡ last_and_8 (Some 40 ∷ replicate 7 None)
  pub last_issue : (with_last in_8.core 1 20).slots ≡ last_and_8 (None ∷ Some 20 ∷ replicate 6 None)
  pub got_thread : (with_got_thread in_8.core 7 20).slots ≡ last_and_8 (replicate 7 None ++ Some 20 ∷ [])

-- all pins show 1 from outside
abbrev pub all_high : PinView
all_high = record { level = replicate 29 1 }

-- the levels after an issue of a node whose pins all show 1, where port 16 drives the value
abbrev pub levels_where_port_drives : ℕ → List ℕ
levels_where_port_drives value = (node_step (node_of_code []) (record start { core = port_core (record on_port { output = true; driven = Some value }) }) 0 no_arrivals all_high).rec.levels

pub record WorkedLevels : Type 0 where
  -- port 16 drives 10, and port 17 drives nothing
  pub driven : levels_where_port_drives 10 ≡ replicate 16 1 ++ 10 ∷ replicate 12 1
  pub driven_low : levels_where_port_drives 0 ≡ replicate 16 1 ++ 0 ∷ replicate 12 1
