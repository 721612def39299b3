-- The rows on synchronisers, worked out by hand: how a master waits for its slaves, and a small program that gets one.
use Rattle.std.specs.Prelude.{ℕ, ◌≡◌, ◌-◌, Option, Some, None, List, [], ◌∷◌, ◌++◌, replicate}
use Rattle.xs_base.specs.Numbers.{Slot, ThreadNumber}
use Rattle.xs_model.specs.declared.thread.Thread.{Thread}
use Rattle.xs_model.specs.declared.thread.Run.{Run}
use Rattle.xs_model.specs.declared.thread.Run.TheVariants.{Free, Unstarted, AtSync, Going, Paused, Halted}
use Rattle.xs_model.specs.declared.thread.Wait.TheVariants.{Slaves, Choice}
use Rattle.xs_model.specs.Memory.{load_word}
use Rattle.xs_model.specs.Record.{NodeRec, SyncRec, unused_sync, thread_of, sync_of, never_divided}
use Rattle.xs_instructions.specs.declared.instr.Instr.{Instr}
use Rattle.xs_instructions.specs.declared.instr.Instr.TheVariants.{Words, Memory, Threads, Resources}
use Rattle.xs_instructions.specs.declared.instr.WordIns.TheVariants as words
use Rattle.xs_instructions.specs.declared.instr.MemIns.TheVariants as memory
use Rattle.xs_instructions.specs.declared.instr.ThreadIns.TheVariants as threads
use Rattle.xs_instructions.specs.declared.instr.ResIns.TheVariants as resources
use Rattle.worked_machine.specs.Slots.{start, with_three}
use Rattle.worked_machine.specs.Threads.{other, all_zero, next, team, three_locks, in_10, leaves, by_0, Refuses, RefusesNoSync, getr_of}
use Rattle.worked_machine.specs.Turns.{nobody, issuers_from, after_from, times, alone}

-- ---- getr r1, 3

abbrev pub getr_3 : Instr
getr_3 = getr_of 3

-- a synchroniser of this thread, without slaves
abbrev pub sync_of_thread : ThreadNumber → SyncRec
sync_of_thread k = record { master = Some k; slaves = [] }

-- thread 0 among halted threads, with these synchronisers
abbrev pub lone : Thread → List SyncRec → NodeRec
lone mine syncs = team (mine ∷ replicate 7 (other Halted)) syncs three_locks

-- synchronisers 0 and 2 are in use, and this is 1
abbrev pub first_three : SyncRec → List SyncRec
first_three one = sync_of_thread 5 ∷ one ∷ sync_of_thread 5 ∷ replicate 4 unused_sync

-- the first six are in use, and this is the last one
abbrev pub all_but : SyncRec → List SyncRec
all_but six = replicate 6 (sync_of_thread 5) ++ six ∷ []

-- threads 0 and 1 are at the instruction, of which 0 issued in slot 9
abbrev pub thread_1_next : Thread → List SyncRec → NodeRec
thread_1_next one syncs = record start {
  core = record (team (with_three 1 7 0 ∷ one ∷ replicate 6 (other Halted)) syncs three_locks).core {
    slots = never_divided (Some 9 ∷ replicate 7 None);
  };
}

pub record WorkedGetSync : Type 0 where
  -- its master is the thread that gets it, and it has no slaves
  pub got : in_10 getr_3 (lone (with_three 1 7 0) (first_three unused_sync)) ≡
      leaves by_0 (lone (next (with_three 1 0x103 0)) (first_three (sync_of_thread 0)))
  pub last_got : in_10 getr_3 (lone (with_three 1 7 0) (all_but unused_sync)) ≡
      leaves by_0 (lone (next (with_three 1 0x603 0)) (all_but (sync_of_thread 0)))
  pub none_free : in_10 getr_3 (lone (with_three 1 7 0) (all_but (sync_of_thread 4))) ≡
      leaves by_0 (lone (next (with_three 1 0 0)) (all_but (sync_of_thread 4)))
  -- nor has it any where a record says so of one without a master
  pub none_stays : in_10 getr_3 (lone (with_three 1 7 0) (first_three (record { master = None; slaves = 2 ∷ 4 ∷ [] }))) ≡
      leaves by_0 (lone (next (with_three 1 0x103 0)) (first_three (sync_of_thread 0)))
  pub by_thread_1 : in_10 getr_3 (thread_1_next (with_three 1 7 0) (first_three unused_sync)) ≡
      leaves (Some 9 ∷ Some 10 ∷ replicate 6 None) (thread_1_next (next (with_three 1 0x103 0)) (first_three (sync_of_thread 1)))

-- ---- msync res[r0] and mjoin res[r0]

-- Threads 2, 4 and 5 do this, and these are slaves of synchroniser 1. Thread 6 is a slave of synchroniser 2, which is thread
-- 1's, and thread 3 is nobody's.
abbrev pub group : Thread → Thread → Thread → Thread → List ThreadNumber → NodeRec
group mine two four five slaves =
    team (mine ∷ other Unstarted ∷ two ∷ other Unstarted ∷ four ∷ five ∷ other AtSync ∷ other Free ∷ [])
    (unused_sync ∷ record { master = Some 0; slaves = slaves } ∷ record { master = Some 1; slaves = 6 ∷ [] } ∷
    unused_sync ∷ unused_sync ∷ unused_sync ∷ sync_of_thread 0 ∷ []) three_locks

-- the master is at an instruction on this synchroniser
abbrev pub at_it : ℕ → Run → Run → Run → NodeRec
at_it name two four five = group (with_three name 7 0) (other two) (other four) (other five) (2 ∷ 4 ∷ 5 ∷ [])

-- it is at its next instruction, and has these slaves
abbrev pub went_on : ℕ → Run → Run → Run → List ThreadNumber → NodeRec
went_on name two four five slaves = group (next (with_three name 7 0)) (other two) (other four) (other five) slaves

-- it pauses: the slaves are as they were
abbrev pub waiting : Run → Run → Run → NodeRec
waiting two four five =
    group (record (with_three 0x103 7 0) { run = Paused (Slaves 1) }) (other two) (other four) (other five) (2 ∷ 4 ∷ 5 ∷ [])

abbrev pub PausesWhere : Instr → Run → Run → Run → Type 0
PausesWhere ins two four five = in_10 ins (at_it 0x103 two four five) ≡ leaves by_0 (waiting two four five)

abbrev pub msync_0 : Instr
msync_0 = Threads (threads.Msync 0)

abbrev pub mjoin_0 : Instr
mjoin_0 = Threads (threads.Mjoin 0)

-- what both rows do where not all slaves are in, or where there are none
pub record Awaits (ins : Instr) : Type 0 where
  pub one_goes : PausesWhere ins AtSync Going Unstarted
  pub one_pauses : PausesWhere ins AtSync Unstarted (Paused Choice)
  pub one_is_halted : PausesWhere ins Halted AtSync AtSync
  pub none_is_in : PausesWhere ins Going Going Going
  pub no_slaves : in_10 ins (at_it 0x603 Going AtSync Unstarted) ≡
      leaves by_0 (went_on 0x603 Going AtSync Unstarted (2 ∷ 4 ∷ 5 ∷ []))
  pub refused : RefusesNoSync ins

-- a master that waits for a halted slave waits for ever: nobody issues in the slots from 11 on
abbrev pub WaitsInVain : Instr → Type 0
WaitsInVain ins = issuers_from (ins ∷ []) (leaves by_0 (waiting Halted AtSync AtSync)).rec 11 24 ≡ replicate 24 nobody

pub record WorkedMsync : Type 0 where
  -- slaves at sync go on, and unstarted ones begin
  pub all_in : in_10 msync_0 (at_it 0x103 Unstarted AtSync AtSync) ≡
      leaves by_0 (went_on 0x103 Going Going Going (2 ∷ 4 ∷ 5 ∷ []))
  pub awaits : Awaits msync_0
  pub halted_slave : WaitsInVain msync_0

-- the slaves issued in these slots before
abbrev pub in_3_to_5 : Option Slot → List (Option Slot)
in_3_to_5 master = master ∷ None ∷ Some 3 ∷ None ∷ Some 4 ∷ Some 5 ∷ None ∷ None ∷ []

pub record WorkedMjoin : Type 0 where
  -- They are free, and slaves no more; their registers and last issues stay. The synchroniser is still in use.
  pub all_in : in_10 mjoin_0 (leaves (in_3_to_5 None) (at_it 0x103 Unstarted AtSync AtSync)).rec ≡
      leaves (in_3_to_5 (Some 10)) (went_on 0x103 Free Free Free [])
  pub awaits : Awaits mjoin_0
  pub halted_slave : WaitsInVain mjoin_0

-- ---- Waking, and a program

-- The master waits in slot 10, and the last slave comes to be at sync in slot 11. The master is rested in slot 14, and the
-- slave in slot 15.
abbrev pub waits_for_one : List Instr
waits_for_one = msync_0 ∷ Threads threads.Ssync ∷ Words words.Nop ∷ []

abbrev pub one_slave : NodeRec
one_slave = team (with_three 0x003 0 0 ∷ next (with_three 0 0 0) ∷ replicate 6 (other Halted))
    (record { master = Some 0; slaves = 1 ∷ [] } ∷ replicate 6 unused_sync) three_locks

-- a thread before one of these slots
abbrev pub thread_before : ℕ → ThreadNumber → Thread
thread_before slot k = thread_of (after_from waits_for_one one_slave 10 (slot - 10)).core k

pub record WorkedWaking : Type 0 where
  pub issues : issuers_from waits_for_one one_slave 10 6 ≡ 0 ∷ 1 ∷ nobody ∷ nobody ∷ 0 ∷ 1 ∷ []
  pub waits : (thread_before 14 0).run ≡ Paused (Slaves 0)
  pub is_in : (thread_before 14 1).run ≡ AtSync
  pub master_goes_on : thread_before 15 0 ≡ next (with_three 0x003 0 0)
  pub slave_goes_on : thread_before 15 1 ≡ record (with_three 0 0 0) { pc = 0x00040008 }

-- main:
--   getr r0, 3
--   getst r1, res[r0]
--   ldap r11, work
--   init t[r1]:pc, r11
--   ldaw r2, dp[0]
--   init t[r1]:dp, r2
--   msync res[r0]
--   mjoin res[r0]
--   stw r1, dp[1]
--   freet
-- work:
--   ldc r3, 9
--   stw r3, dp[0]
--   ssync
abbrev pub joins_one : List Instr
joins_one =
    Resources (resources.Getr 0 3) ∷ Threads (threads.Getst 1 0) ∷ Memory (memory.Ldap 10) ∷ Threads (threads.InitPc 1 11) ∷
    Memory (memory.LdawDp 2 0) ∷ Threads (threads.InitDp 1 2) ∷ msync_0 ∷ mjoin_0 ∷
    Memory (memory.StwDp 1 1) ∷ Threads threads.Freet ∷
    Words (words.Ldc 3 9) ∷ Memory (memory.StwDp 3 0) ∷ Threads threads.Ssync ∷ []

-- its threads before a slot, and the words at the beginning of its memory
abbrev pub joining : ℕ → ThreadNumber → Thread
joining slot k = thread_of (after_from joins_one start 0 slot).core k

abbrev pub word_before : ℕ → ℕ → Option ℕ
word_before slot at = load_word (after_from joins_one start 0 slot).core.memory at

pub record WorkedJoin : Type 0 where
  -- the slave issues in slots 25, 29 and 33, and the master, which waits from 28 on, in slot 34
  pub issues : issuers_from joins_one start 0 46 ≡ times 6 (alone 0) ++ (0 ∷ 1 ∷ nobody ∷ nobody ∷ 0 ∷ []) ++
      alone 1 ++ 1 ∷ alone 0 ++ alone 0 ++ alone 0
  pub waits : (joining 29 0).run ≡ Paused (Slaves 0)
  pub at_mjoin : (joining 34 0).pc ≡ 0x0004001c
  pub is_in : (joining 34 1).run ≡ AtSync
  pub goes_on : (joining 35 0).run ≡ Going
  -- the slave is free, with the registers that it had
  pub slave_is_free : joining 35 1 ≡ record all_zero {
    r = 0 ∷ 0 ∷ 0 ∷ 9 ∷ replicate 8 0;
    dp = 0x00010000;
    pc = 0x00040034;
    run = Free;
  }
  pub sync_stays : sync_of (after_from joins_one start 0 35).core 0 ≡ sync_of_thread 0
  pub no_word : word_before 29 0x00010000 ≡ Some 0
  pub word : word_before 30 0x00010000 ≡ Some 9
  pub no_second_word : word_before 38 0x00010004 ≡ Some 0
  pub second_word : word_before 39 0x00010004 ≡ Some 0x104
  pub ends : (joining 43 0).run ≡ Free

-- ---- freer res[r0]

abbrev pub freer_0 : Instr
freer_0 = Resources (resources.Freer 0)

pub record WorkedFreeSync : Type 0 where
  pub freed : in_10 freer_0 (lone (with_three 0x103 7 0) (first_three (sync_of_thread 0))) ≡
      leaves by_0 (lone (next (with_three 0x103 7 0)) (first_three unused_sync))
  pub last_freed : in_10 freer_0 (lone (with_three 0x603 7 0) (all_but (sync_of_thread 0))) ≡
      leaves by_0 (lone (next (with_three 0x603 7 0)) (all_but unused_sync))
  pub has_slaves : Refuses freer_0 0x103
  pub not_its_master : Refuses freer_0 0x203
  pub unused : Refuses freer_0 0x003
  pub number_7 : Refuses freer_0 0x703
  pub upper_half : Refuses freer_0 0x00010603

pub record WorkedSyncs : Type 0 where
  pub getr : WorkedGetSync
  pub msync : WorkedMsync
  pub mjoin : WorkedMjoin
  pub freer : WorkedFreeSync
  pub waking : WorkedWaking
  pub join : WorkedJoin
