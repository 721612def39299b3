-- The rows on locks, and freer, worked out by hand.
use Rattle.std.specs.Prelude.{ℕ, ◌≡◌, ◌-◌, true, false, Some, None, List, [], ◌∷◌, ◌++◌, replicate}
use Rattle.xs_base.specs.Numbers.{ThreadNumber}
use Rattle.xs_base.specs.declared.token.Token.TheVariants.{Byte, Ctrl}
use Rattle.xs_model.specs.declared.thread.Thread.{Thread}
use Rattle.xs_model.specs.declared.thread.Run.{Run}
use Rattle.xs_model.specs.declared.thread.Run.TheVariants.{Free, Paused, Halted}
use Rattle.xs_model.specs.declared.thread.Wait.TheVariants.{Room, Tokens, Lock, Choice}
use Rattle.xs_model.specs.declared.event.Event.{Event}
use Rattle.xs_model.specs.declared.event.Happen.TheVariants as happen
use Rattle.xs_model.specs.Outside.{in_slot}
use Rattle.xs_model.specs.Picks.{eligible, picked}
use Rattle.xs_model.specs.Record.{NodeRec, ChanRec, InputRec, Idle, Local, LockRec, unused_chan, unused_sync, unused_lock, thread_of, lock_of, never_divided}
use Rattle.xs_instructions.specs.declared.instr.Instr.{Instr}
use Rattle.xs_instructions.specs.declared.instr.Instr.TheVariants.{Words, Resources}
use Rattle.xs_instructions.specs.declared.instr.WordIns.TheVariants as words
use Rattle.xs_instructions.specs.declared.instr.ResIns.TheVariants as resources
use Rattle.net_model.specs.Chans.{got_chan}
use Rattle.net_model.specs.Links.{fresh_link}
use Rattle.net_model.specs.Switch.{state_at, with_state}
use Rattle.worked_machine.specs.Slots.{start, start_as, first, slot_of, with_three, halted}
use Rattle.worked_machine.specs.Channels.{quiet_slot, own_id, far_id, own_word, far_chan, header_out, with_chan_0, with_network, two_words, thread_in_1, chan_in_1, events_in_1, traps_in_1, chkct_end}
use Rattle.worked_machine.specs.Turns.{nobody, issuers_from, after_from}
use Rattle.worked_machine.specs.Threads.{other, next, team, syncs_with, three_locks, in_10, leaves, by_0, RefusesIn, Refuses, getr_of}
use Rattle.worked_machine.specs.Syncs.{freer_0}

-- ---- getr r1, 5

abbrev pub getr_5 : Instr
getr_5 = getr_of 5

-- nobody owns the lock, or this thread does
abbrev pub ownerless : LockRec
ownerless = record { used = true; owner = None }

abbrev pub owned_by : ThreadNumber → LockRec
owned_by k = record { used = true; owner = Some k }

-- thread 0 among seven others, with these locks; thread 7 does this
abbrev pub among : Thread → Run → List LockRec → NodeRec
among mine seven locks = team (mine ∷ replicate 6 (other Halted) ++ other seven ∷ []) (syncs_with []) locks

-- thread 0 with this name in r0 and 7 in r1
abbrev pub named : ℕ → List LockRec → NodeRec
named name locks = among (with_three name 7 0) Halted locks

-- it has gone on, with these in r0 and r1
abbrev pub passed : ℕ → ℕ → List LockRec → NodeRec
passed name word locks = among (next (with_three name word 0)) Halted locks

-- locks 0 and 1 are in use, and these are 2 and 3
abbrev pub four_locks : LockRec → LockRec → List LockRec
four_locks two three = owned_by 5 ∷ ownerless ∷ two ∷ three ∷ []

-- lock 2 is not in use, and this thread is its owner all the same
abbrev pub set_before : ThreadNumber → List LockRec
set_before k = four_locks (record { used = false; owner = Some k }) unused_lock

-- thread 0 gets it and would own it: at `in` in slot 14
abbrev pub gets_and_claims : List Instr
gets_and_claims = getr_5 ∷ Resources (resources.In 0 1) ∷ []

abbrev pub at_in : ThreadNumber → NodeRec
at_in k = after_from gets_and_claims (named 1 (set_before k)) 10 4

pub record WorkedGetLock : Type 0 where
  -- nobody owns it
  pub got : in_10 getr_5 (named 1 (four_locks unused_lock unused_lock)) ≡
      leaves by_0 (passed 1 0x205 (four_locks ownerless unused_lock))
  pub last_got : in_10 getr_5 (named 1 (four_locks ownerless unused_lock)) ≡
      leaves by_0 (passed 1 0x305 (four_locks ownerless ownerless))
  pub none_free : in_10 getr_5 (named 1 (four_locks ownerless (owned_by 0))) ≡
      leaves by_0 (passed 1 0 (four_locks ownerless (owned_by 0)))
  -- one that is not in use keeps the owner that it has
  pub stays : in_10 getr_5 (named 1 (set_before 5)) ≡ leaves by_0 (passed 1 0x205 (four_locks (owned_by 5) unused_lock))
  -- so another thread waits for it, and the owner itself traps
  pub waits : thread_of (after_from gets_and_claims (at_in 5) 14 1).core 0 ≡
      record (next (with_three 1 0x205 0)) { run = Paused (Lock 2) }
  pub own : (slot_of gets_and_claims (at_in 0) 14).emitted.events ≡
      in_slot 14 (happen.Trap 0 4 0x00040004 0x205) ∷ in_slot 14 (happen.Halt 0) ∷ []
  pub still_owned : lock_of (slot_of gets_and_claims (at_in 0) 14).rec.core 2 ≡ owned_by 0

-- ---- in r1, res[r0] and out res[r0], r1

abbrev pub in_0 : Instr
in_0 = Resources (resources.In 1 0)

abbrev pub out_0 : Instr
out_0 = Resources (resources.Out 0 1)

-- names that neither row takes
pub record RefusesNoLock (ins : Instr) : Type 0 where
  pub unused : Refuses ins 0x305
  pub number_4 : Refuses ins 0x405
  pub upper_half : Refuses ins 0x00010005
  pub upper_half_of_own : Refuses ins 0x00010105
  pub nothing : Refuses ins 0
  pub port : Refuses ins 0x00010000
  pub timer : Refuses ins 0x101
  pub unused_chan : Refuses ins 0x102
  pub sync : Refuses ins 0x103
  pub thread : Refuses ins 0x504
  pub clock : Refuses ins 0x106

-- lock 0 is this one
abbrev pub first_is : LockRec → List LockRec
first_is lock = lock ∷ owned_by 0 ∷ owned_by 1 ∷ unused_lock ∷ []

pub record WorkedIn : Type 0 where
  -- the thread owns the lock, and r1 takes its name
  pub claimed : in_10 in_0 (named 0x005 (first_is ownerless)) ≡ leaves by_0 (passed 0x005 0x005 (first_is (owned_by 0)))
  pub last_claimed : in_10 in_0 (named 0x305 (four_locks unused_lock ownerless)) ≡
      leaves by_0 (passed 0x305 0x305 (four_locks unused_lock (owned_by 0)))
  -- another thread owns it: the thread waits at the instruction, and r1 stays
  pub waits : in_10 in_0 (named 0x205 three_locks) ≡
      leaves by_0 (among (record (with_three 0x205 7 0) { run = Paused (Lock 2) }) Halted three_locks)
  -- so it does where another thread waits for it already: several may
  pub second_waits : in_10 in_0 (among (with_three 0x205 7 0) (Paused (Lock 2)) three_locks) ≡
      leaves by_0 (among (record (with_three 0x205 7 0) { run = Paused (Lock 2) }) (Paused (Lock 2)) three_locks)
  -- it owns the lock itself
  pub own : Refuses in_0 0x105
  pub refused : RefusesNoLock in_0
  -- a lock that is not in use and has an owner all the same
  pub left_by_its_owner : RefusesIn (named 0x005 (first_is (record { used = false; owner = Some 1 }))) in_0 0x005

pub record WorkedOut : Type 0 where
  -- nobody owns the lock from now on; what r1 holds does not matter
  pub released : in_10 out_0 (named 0x105 three_locks) ≡
      leaves by_0 (passed 0x105 7 (ownerless ∷ ownerless ∷ owned_by 1 ∷ unused_lock ∷ []))
  -- not even a thread that waits for it
  pub released_to_nobody : in_10 out_0 (among (with_three 0x105 7 0) (Paused (Lock 1)) three_locks) ≡
      leaves by_0 (among (next (with_three 0x105 7 0)) (Paused (Lock 1)) (ownerless ∷ ownerless ∷ owned_by 1 ∷ unused_lock ∷ []))
  pub nobody_owns : Refuses out_0 0x005
  pub another_owns : Refuses out_0 0x205
  pub refused : RefusesNoLock out_0
  pub left_by_it : RefusesIn (named 0x005 (first_is (record { used = false; owner = Some 0 }))) out_0 0x005

-- ---- Waking. Threads 1 and 2 wait for lock 0 from slots 40 and 41 on, and thread 0 releases it in slot 44.

abbrev pub releases : List Instr
releases = out_0 ∷ in_0 ∷ Words words.Nop ∷ Words words.Nop ∷ []

abbrev pub waiter : Thread
waiter = record (with_three 0x005 0 0) { pc = 0x00040004; run = Paused (Lock 0) }

abbrev pub two_wait : NodeRec
two_wait = record start {
  core = record (team (with_three 0x005 0 0 ∷ waiter ∷ waiter ∷ replicate 5 (other Free)) (replicate 7 unused_sync)
      (owned_by 0 ∷ replicate 3 unused_lock)).core { slots = never_divided (None ∷ Some 40 ∷ Some 41 ∷ replicate 5 None) };
}

-- a node before one of these slots
abbrev pub before : ℕ → NodeRec
before slot = after_from releases two_wait 44 (slot - 44)

pub record WorkedRelease : Type 0 where
  pub issues : issuers_from releases two_wait 44 6 ≡ 0 ∷ 1 ∷ nobody ∷ nobody ∷ 0 ∷ 1 ∷ []
  pub nobody_owns : lock_of (before 45).core 0 ≡ ownerless
  pub first_issued : picked (before 45).core 45 ≡ Some 1
  pub both_eligible : eligible (before 45).core 2 45 ≡ true
  pub owns_it : lock_of (before 46).core 0 ≡ owned_by 1
  pub has_its_name : thread_of (before 46).core 1 ≡ record (with_three 0x005 0x005 0) { pc = 0x00040008 }
  pub not_eligible : eligible (before 46).core 2 46 ≡ false
  pub still_waits : thread_of (before 46).core 2 ≡ waiter

-- ---- freer res[r0]

pub record WorkedFreeLock : Type 0 where
  pub freed : in_10 freer_0 (named 0x005 (first_is ownerless)) ≡ leaves by_0 (passed 0x005 7 (first_is unused_lock))
  pub last_freed : in_10 freer_0 (named 0x305 (four_locks unused_lock ownerless)) ≡
      leaves by_0 (passed 0x305 7 (four_locks unused_lock unused_lock))
  -- a thread owns it: this one, or another
  pub own : Refuses freer_0 0x105
  pub owned : Refuses freer_0 0x205
  pub unused : Refuses freer_0 0x305
  -- nobody owns it, and a thread is paused on it
  pub is_waited_for : RefusesIn (among (with_three 0x005 7 0) (Paused (Lock 0)) three_locks) freer_0 0x005
  pub other_is_waited_for : in_10 freer_0 (among (with_three 0x005 7 0) (Paused (Lock 2)) (first_is ownerless)) ≡
      leaves by_0 (among (next (with_three 0x005 7 0)) (Paused (Lock 2)) (first_is unused_lock))
  pub number_4 : Refuses freer_0 0x405
  pub upper_half : Refuses freer_0 0x00010005
  -- of kinds that are not freed so, or not there
  pub nothing : Refuses freer_0 0
  pub thread : Refuses freer_0 0x504
  pub itself : Refuses freer_0 0x004
  pub timer : Refuses freer_0 0x001
  pub port : Refuses freer_0 0x00010000
  pub clock : Refuses freer_0 0x106

-- thread 0 of node 3 has the name of this node's channel end 0, which is this one; the switch is at work with it so
abbrev pub at_chan : ChanRec → InputRec → NodeRec
at_chan chan state = with_network (start_as own_word) chan fresh_link state

-- thread 1 does this, too
abbrev pub beside : Run → NodeRec
beside run = with_chan_0 (record start {
  core = record start.core { threads = own_word ∷ record first { run = run } ∷ replicate 6 (thread_of start.core 7) };
}) (far_chan [] [])

-- END and a byte wait in it
abbrev pub end_before_byte : NodeRec
end_before_byte = at_chan (far_chan (Ctrl 1 ∷ Byte 5 ∷ []) []) header_out

-- it is refused, and the channel end is this one
abbrev pub IsKept : NodeRec → ChanRec → Type 0
IsKept rec chan = (events_in_1 freer_0 rec ≡ traps_in_1 4 own_id) × (chan_in_1 freer_0 rec ≡ chan)

pub record WorkedFreeChan : Type 0 where
  pub freed : chan_in_1 freer_0 (at_chan (far_chan [] []) Idle) ≡ unused_chan
  pub goes_on : thread_in_1 freer_0 (at_chan (far_chan [] []) Idle) ≡ record own_word { pc = 0x00040004 }
  -- a token came; a token is left after END, which goes out in this slot
  pub input_token : IsKept (at_chan (far_chan [] (Byte 5 ∷ [])) Idle) (far_chan [] (Byte 5 ∷ []))
  pub output_token : IsKept end_before_byte (far_chan (Byte 5 ∷ []) [])
  pub packet_over : state_at (quiet_slot (freer_0 ∷ []) end_before_byte 1).rec 8 ≡ Idle
  -- its own packet is not over; another packet holds it
  pub in_a_packet : IsKept (at_chan (far_chan [] []) header_out) (far_chan [] [])
  pub is_held : IsKept (with_state (at_chan (far_chan [] []) Idle) 0 (Local 0)) (far_chan [] [])
  -- a thread is paused on it, on either side
  pub input_waited_at : IsKept (beside (Paused (Tokens 0 1))) (far_chan [] [])
  pub output_waited_at : IsKept (beside (Paused (Room 0 1))) (far_chan [] [])
  pub other_waited_at : chan_in_1 freer_0 (beside (Paused (Tokens 1 1))) ≡ unused_chan
  pub event_waited_for : chan_in_1 freer_0 (beside (Paused Choice)) ≡ unused_chan
  pub unused : IsKept (at_chan unused_chan Idle) unused_chan
  pub chan_1 : events_in_1 freer_0 (two_words 0x00030102 0 got_chan) ≡ traps_in_1 4 0x00030102
  pub chan_32 : events_in_1 freer_0 (two_words 0x00032002 0 got_chan) ≡ traps_in_1 4 0x00032002
  pub other_node : events_in_1 freer_0 (two_words far_id 0 got_chan) ≡ traps_in_1 4 far_id

-- ---- A second thread at a channel end: thread 0 waits there from slot 10 on, and thread 1 comes to it in slot 11.

abbrev pub both_at_it : NodeRec
both_at_it = team (with_three 0x002 0 0 ∷ with_three 0x002 0 0 ∷ replicate 6 (other Free)) (replicate 7 unused_sync)
    (replicate 4 unused_lock)

abbrev pub second : List Event
second = (slot_of (chkct_end ∷ []) (in_10 chkct_end both_at_it).rec 11).emitted.events

pub record WorkedSecond : Type 0 where
  pub traps : second ≡ in_slot 11 (happen.Trap 1 9 0x00040000 0x002) ∷ in_slot 11 (happen.Halt 1) ∷ []
  pub is_halted : thread_of (after_from (chkct_end ∷ []) both_at_it 10 2).core 1 ≡ halted (with_three 0x002 0 0) 9 0x002
  pub first_waits : (thread_of (after_from (chkct_end ∷ []) both_at_it 10 2).core 0).run ≡ Paused (Tokens 0 1)

pub record WorkedLocks : Type 0 where
  pub getr : WorkedGetLock
  pub claim : WorkedIn
  pub release : WorkedOut
  pub waking : WorkedRelease
  pub freer : WorkedFreeLock
  pub freer_of_chan : WorkedFreeChan
  pub second : WorkedSecond
