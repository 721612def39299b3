-- The rows on threads, worked out by hand: what each leaves of a whole node, and what it refuses.
use Rattle.std.specs.Prelude.{ℕ, ◌≡◌, true, false, Option, Some, None, List, [], ◌∷◌, ◌++◌, replicate}
use Rattle.xs_base.specs.Numbers.{Slot, ThreadNumber}
use Rattle.xs_model.specs.declared.thread.Thread.{Thread}
use Rattle.xs_model.specs.declared.thread.Run.{Run}
use Rattle.xs_model.specs.declared.thread.Run.TheVariants.{Free, Unstarted, AtSync, Going, Paused, Halted}
use Rattle.xs_model.specs.declared.thread.Wait.TheVariants.{Choice}
use Rattle.xs_model.specs.declared.event.Happen.TheVariants as happen
use Rattle.xs_model.specs.Record.{NodeRec, SyncRec, LockRec, unused_chan, unused_timer, unused_sync, unused_lock, thread_of, with_thread, with_last, never_divided}
use Rattle.xs_model.specs.Outside.{emitted_events, in_slot}
use Rattle.xs_instructions.specs.declared.instr.Instr.{Instr}
use Rattle.xs_instructions.specs.declared.instr.Instr.TheVariants.{Threads, Resources}
use Rattle.xs_instructions.specs.declared.instr.ThreadIns.TheVariants as threads
use Rattle.xs_instructions.specs.declared.instr.ResIns.TheVariants as resources
use Rattle.net_model.specs.Chans.{got_chan}
use Rattle.step_model.specs.Step.{Stepped}
use Rattle.worked_machine.specs.Slots.{start, slot_of, idle, with_three, halted}
use Rattle.worked_machine.specs.Turns.{nobody, issuers_from}

-- ---- Threads

-- a thread that does this, with another word in each register
abbrev pub other : Run → Thread
other run = record {
  r = 100 ∷ 101 ∷ 102 ∷ 103 ∷ 104 ∷ 105 ∷ 106 ∷ 107 ∷ 108 ∷ 109 ∷ 110 ∷ 111 ∷ [];
  cp = 112;
  dp = 113;
  sp = 114;
  lr = 115;
  pc = 116;
  sr = record { bits = 0x91 };
  spc = 117;
  ssr = record { bits = 0x42 };
  et = 118;
  ed = 119;
  sed = 120;
  kep = 128;
  ksp = 121;
  run = run;
}

-- a thread that was just got
abbrev pub all_zero : Thread
all_zero = record {
  r = replicate 12 0;
  cp = 0;
  dp = 0;
  sp = 0;
  lr = 0;
  pc = 0;
  sr = record { bits = 0 };
  spc = 0;
  ssr = record { bits = 0 };
  et = 0;
  ed = 0;
  sed = 0;
  kep = 0;
  ksp = 0;
  run = Unstarted;
}

-- thread 0 at the second instruction
abbrev pub next : Thread → Thread
next th = record th { pc = 0x00040004 }

-- ---- Nodes, and slot 10 of them

-- a node of which nobody issued yet and whose core divided in slot 8, with these threads, synchronisers and locks, and channel
-- end 0 in use
abbrev pub team : List Thread → List SyncRec → List LockRec → NodeRec
team threads syncs locks = record start {
  core = record start.core {
    threads = threads;
    slots = record start.core.slots { division = Some 8 };
    chans = got_chan ∷ replicate 31 unused_chan;
    syncs = syncs;
    locks = locks;
  };
}

-- synchroniser 1 is thread 0's and has these slaves; 6 is thread 0's and 2 is thread 1's, without slaves
abbrev pub syncs_with : List ThreadNumber → List SyncRec
syncs_with slaves =
    unused_sync ∷ record { master = Some 0; slaves = slaves } ∷ record { master = Some 1; slaves = [] } ∷
    unused_sync ∷ unused_sync ∷ unused_sync ∷ record { master = Some 0; slaves = [] } ∷ []

-- nobody owns lock 0, thread 0 owns lock 1, thread 1 owns lock 2, and lock 3 is not in use
abbrev pub three_locks : List LockRec
three_locks =
    record { used = true; owner = None } ∷ record { used = true; owner = Some 0 } ∷ record { used = true; owner = Some 1 } ∷
    unused_lock ∷ []

-- seven other threads after thread 0, one of each sort, with this for thread 3; these are slaves of synchroniser 1
abbrev pub crowd_with : List ThreadNumber → Thread → Thread → NodeRec
crowd_with slaves mine three = team (mine ∷ other Going ∷ other Halted ∷ three ∷
    other AtSync ∷ other Unstarted ∷ other Free ∷ other (Paused Choice) ∷ []) (syncs_with slaves) three_locks

-- threads 2 and 4 are
abbrev pub crowd : Thread → Thread → NodeRec
crowd mine three = crowd_with (2 ∷ 4 ∷ []) mine three

-- the same, where thread 0 has this name in r0 and 7 in r1, and thread 3 is free
abbrev pub crowd_named : ℕ → NodeRec
crowd_named name = crowd (with_three name 7 0) (other Free)

-- slot 10 of a node whose code is this one instruction
abbrev pub in_10 : Instr → NodeRec → Stepped
in_10 ins rec = slot_of (ins ∷ []) rec 10

-- nothing happened, the node is this one, and these are the last issues; it divided last where this one did
abbrev pub leaves : List (Option Slot) → NodeRec → Stepped
leaves last rec = idle (record rec { core = record rec.core { slots = record rec.core.slots { last = last } } })

-- thread 0 alone issued, or thread 3 or 7 was got too
abbrev pub by_0 : List (Option Slot)
by_0 = Some 10 ∷ replicate 7 None

abbrev pub by_0_with_3 : List (Option Slot)
by_0_with_3 = Some 10 ∷ None ∷ None ∷ Some 10 ∷ replicate 4 None

abbrev pub by_0_with_7 : List (Option Slot)
by_0_with_7 = Some 10 ∷ replicate 6 None ++ Some 10 ∷ []

-- thread 0 traps in slot 10, and no handler is there: nothing else changes
abbrev pub trapped : NodeRec → ℕ → ℕ → Stepped
trapped rec number value = record {
  rec = record rec { core = with_last (with_thread rec.core 0 (halted (thread_of rec.core 0) number value)) 0 10 };
  emitted = emitted_events (in_slot 10 (happen.Trap 0 number 0x00040000 value) ∷ in_slot 10 (happen.Halt 0) ∷ []);
}

-- the node refuses the instruction, with these data
abbrev pub RefusesIn : NodeRec → Instr → ℕ → Type 0
RefusesIn rec ins value = in_10 ins rec ≡ trapped rec 4 value

-- it refuses the name in r0
abbrev pub Refuses : Instr → ℕ → Type 0
Refuses ins name = RefusesIn (crowd_named name) ins name

-- names that no row on a synchroniser takes: the synchroniser is not in use, or is another thread's; there is none of this
-- number; the name has upper bits; or it is that of a port, a timer, a channel end, a thread, a lock or a clock block
pub record RefusesNoSync (ins : Instr) : Type 0 where
  pub unused : Refuses ins 0x003
  pub not_its_master : Refuses ins 0x203
  pub number_7 : Refuses ins 0x703
  pub upper_half : Refuses ins 0x00010103
  pub nothing : Refuses ins 0
  pub port : Refuses ins 0x00010000
  pub timer : Refuses ins 0x101
  pub chan_end : Refuses ins 0x002
  pub thread : Refuses ins 0x504
  pub lock : Refuses ins 0x105
  pub clock : Refuses ins 0x106

-- names that no row on another thread takes: that of the thread itself, of one that goes, is halted, free or paused, and the
-- names of no thread
pub record RefusesNoThread (ins : Instr) : Type 0 where
  pub itself : Refuses ins 0x004
  pub going : Refuses ins 0x104
  pub is_halted : Refuses ins 0x204
  pub free : Refuses ins 0x604
  pub paused : Refuses ins 0x704
  pub number_8 : Refuses ins 0x804
  pub upper_half : Refuses ins 0x00010504
  pub nothing : Refuses ins 0
  pub port : Refuses ins 0x00010000
  pub timer : Refuses ins 0x501
  pub chan_end : Refuses ins 0x002
  pub sync : Refuses ins 0x103
  pub lock : Refuses ins 0x105
  pub clock : Refuses ins 0x106

-- ---- getst r1, res[r0]

abbrev pub getst_10 : Instr
getst_10 = Threads (threads.Getst 1 0)

-- this thread 0, then six halted threads, and then this one; these are slaves of synchroniser 1
abbrev pub last_with : List ThreadNumber → Thread → Thread → NodeRec
last_with slaves mine seven = team (mine ∷ replicate 6 (other Halted) ++ seven ∷ []) (syncs_with slaves) three_locks

abbrev pub last_is : Thread → Thread → NodeRec
last_is mine seven = last_with [] mine seven

pub record WorkedGetst : Type 0 where
  -- threads 3 and 6 are free: 3 is got, as a slave between the two others
  pub got : in_10 getst_10 (crowd_named 0x103) ≡
      leaves by_0_with_3 (crowd_with (2 ∷ 3 ∷ 4 ∷ []) (next (with_three 0x103 0x304 0)) all_zero)
  -- the name is read before it is written over
  pub over_its_name : in_10 (Threads (threads.Getst 0 0)) (crowd_named 0x103) ≡
      leaves by_0_with_3 (crowd_with (2 ∷ 3 ∷ 4 ∷ []) (next (with_three 0x304 7 0)) all_zero)
  -- thread 7 is the first slave of synchroniser 1
  pub last_got : in_10 getst_10 (last_is (with_three 0x103 7 0) (other Free)) ≡
      leaves by_0_with_7 (last_with (7 ∷ []) (next (with_three 0x103 0x704 0)) all_zero)
  -- none is free: r1 becomes 0
  pub none_free : in_10 getst_10 (last_is (with_three 0x103 7 0) (other Unstarted)) ≡
      leaves by_0 (last_is (next (with_three 0x103 0 0)) (other Unstarted))
  -- none is free, and the thread is not the master: it is refused all the same
  pub none_free_for_it : RefusesIn (last_is (with_three 0x203 7 0) (other Halted)) getst_10 0x203
  pub refused : RefusesNoSync getst_10

-- ---- The rows that set a register of thread 3, whose name is in r0, to 0xabcd, which is in r1

abbrev pub to_set : Run → NodeRec
to_set run = crowd (with_three 0x304 0xabcd 0) (other run)

-- it is set, and the thread that was in goes on to be in
abbrev pub IsSet : Instr → Run → Thread → Type 0
IsSet ins run three = in_10 ins (to_set run) ≡ leaves by_0 (crowd (next (with_three 0x304 0xabcd 0)) three)

-- it is set where the thread is unstarted or at sync, and is refused where not
pub record Sets (ins : Instr) (set : Thread → Thread) : Type 0 where
  pub unstarted : IsSet ins Unstarted (set (other Unstarted))
  pub at_sync : IsSet ins AtSync (set (other AtSync))
  pub going : RefusesIn (to_set Going) ins 0x304
  pub paused : RefusesIn (to_set (Paused Choice)) ins 0x304
  pub free : RefusesIn (to_set Free) ins 0x304
  pub is_halted : RefusesIn (to_set Halted) ins 0x304
  pub refused : RefusesNoThread ins

-- r0 to r11 of such a thread, with this in r5
abbrev pub fifth : ℕ → List ℕ
fifth word = 100 ∷ 101 ∷ 102 ∷ 103 ∷ 104 ∷ word ∷ 106 ∷ 107 ∷ 108 ∷ 109 ∷ 110 ∷ 111 ∷ []

pub record WorkedInit : Type 0 where
  pub pc : Sets (Threads (threads.InitPc 0 1)) (λ th. record th { pc = 0xabcd })
  pub sp : Sets (Threads (threads.InitSp 0 1)) (λ th. record th { sp = 0xabcd })
  pub dp : Sets (Threads (threads.InitDp 0 1)) (λ th. record th { dp = 0xabcd })
  pub cp : Sets (Threads (threads.InitCp 0 1)) (λ th. record th { cp = 0xabcd })
  pub lr : Sets (Threads (threads.InitLr 0 1)) (λ th. record th { lr = 0xabcd })
  pub r5 : Sets (Threads (threads.SetOther 0 5 1)) (λ th. record th { r = fifth 0xabcd })
  -- the first and the last of them, to the name itself
  pub r0 : IsSet (Threads (threads.SetOther 0 0 0)) Unstarted (record (other Unstarted) {
    r = 0x304 ∷ 101 ∷ 102 ∷ 103 ∷ 104 ∷ 105 ∷ 106 ∷ 107 ∷ 108 ∷ 109 ∷ 110 ∷ 111 ∷ [];
  })
  pub r11 : IsSet (Threads (threads.SetOther 0 11 0)) Unstarted (record (other Unstarted) {
    r = 100 ∷ 101 ∷ 102 ∷ 103 ∷ 104 ∷ 105 ∷ 106 ∷ 107 ∷ 108 ∷ 109 ∷ 110 ∷ 0x304 ∷ [];
  })

-- ---- start t[r0]

abbrev pub start_0 : Instr
start_0 = Threads (threads.Start 0)

-- thread 3 is unstarted, and a slave of synchroniser 1, which is thread 0's; or of 6, which is thread 5's
abbrev pub slave_of_1 : NodeRec
slave_of_1 = crowd_with (2 ∷ 3 ∷ 4 ∷ []) (with_three 0x304 0xabcd 0) (other Unstarted)

abbrev pub slave_of_6 : NodeRec
slave_of_6 = team (with_three 0x304 0xabcd 0 ∷ other Going ∷ other Halted ∷ other Unstarted ∷ replicate 4 (other Halted))
    (replicate 6 unused_sync ++ record { master = Some 5; slaves = 3 ∷ [] } ∷ []) three_locks

pub record WorkedStart : Type 0 where
  -- it goes, with the registers and the last issue that it has
  pub started : IsSet start_0 Unstarted (other Going)
  pub slave : RefusesIn slave_of_1 start_0 0x304
  pub slave_of_another : RefusesIn slave_of_6 start_0 0x304
  pub at_sync : RefusesIn (to_set AtSync) start_0 0x304
  pub going : RefusesIn (to_set Going) start_0 0x304
  pub paused : RefusesIn (to_set (Paused Choice)) start_0 0x304
  pub free : RefusesIn (to_set Free) start_0 0x304
  pub is_halted : RefusesIn (to_set Halted) start_0 0x304
  pub refused : RefusesNoThread start_0

-- ---- ssync and freet

-- thread 0 is a slave of synchroniser 2, which is thread 1's, and the master of synchroniser 1
abbrev pub as_slave : Thread → NodeRec
as_slave mine = team (mine ∷ replicate 7 (other Halted)) (unused_sync ∷ record { master = Some 0; slaves = 2 ∷ [] } ∷
    record { master = Some 1; slaves = 0 ∷ 5 ∷ [] } ∷ replicate 4 unused_sync) three_locks

abbrev pub ssync : Instr
ssync = Threads threads.Ssync

abbrev pub freet : Instr
freet = Threads threads.Freet

pub record WorkedSsync : Type 0 where
  pub at_sync : in_10 ssync (as_slave (with_three 1 2 3)) ≡
      leaves by_0 (as_slave (record (next (with_three 1 2 3)) { run = AtSync }))
  -- it is no slave: the data are 0, not what r0 holds
  pub no_slave : RefusesIn (crowd_named 0x103) ssync 0

pub record WorkedFreet : Type 0 where
  -- its registers stay; lock 1 and synchronisers 1 and 6 are still its own
  pub is_free : in_10 freet (crowd_named 0x103) ≡
      leaves by_0 (crowd (record (next (with_three 0x103 7 0)) { run = Free }) (other Free))
  pub slave : RefusesIn (as_slave (with_three 1 2 3)) freet 0

-- ---- getr r1, 4, and of kinds that are not there

abbrev pub getr_of : ℕ → Instr
getr_of kind = Resources (resources.Getr 1 kind)

-- r1 becomes 0, and that is all
abbrev pub GetsNone : ℕ → Type 0
GetsNone kind = in_10 (getr_of kind) (crowd_named 1) ≡ leaves by_0 (crowd (next (with_three 1 0 0)) (other Free))

-- the same node, whose timer 0 is in use, without a condition
abbrev pub with_first_timer : NodeRec → NodeRec
with_first_timer rec = record rec {
  core = record rec.core { timers = record { used = true; value = 0; after = false } ∷ replicate 9 unused_timer };
}

pub record WorkedGetThread : Type 0 where
  pub got : in_10 (getr_of 4) (crowd_named 1) ≡ leaves by_0_with_3 (crowd (next (with_three 1 0x304 0)) all_zero)
  pub last_got : in_10 (getr_of 4) (last_is (with_three 1 7 0) (other Free)) ≡
      leaves by_0_with_7 (last_is (next (with_three 1 0x704 0)) all_zero)
  pub none_free : in_10 (getr_of 4) (last_is (with_three 1 7 0) (other (Paused Choice))) ≡
      leaves by_0 (last_is (next (with_three 1 0 0)) (other (Paused Choice)))
  -- timer 0 is got
  pub timer : in_10 (getr_of 1) (crowd_named 7) ≡ leaves by_0 (with_first_timer (crowd (next (with_three 7 0x001 0)) (other Free)))
  pub port : GetsNone 0
  pub clock : GetsNone 6
  pub greatest : GetsNone 11

-- ---- Who issues next

-- Thread 1 is got in slot 10. In slot 11 thread 2, which has its name, starts it.
abbrev pub get_and_start : List Instr
get_and_start = getr_of 4 ∷ start_0 ∷ []

abbrev pub starter : Thread
starter = next (with_three 0x104 0 0)

abbrev pub got_by : Thread → Thread → NodeRec
got_by mine three = record start {
  core = record start.core {
    threads = mine ∷ other Free ∷ starter ∷ three ∷ replicate 4 (other Free);
    slots = never_divided (None ∷ None ∷ Some 7 ∷ replicate 5 None);
  };
}

-- a thread that is got and the one that got it have one last issue: in slot 14 the lower of the two is first
pub record WorkedTies : Type 0 where
  pub got_by_0 : issuers_from get_and_start (got_by (with_three 0 0 0) (other Free)) 10 6 ≡
      0 ∷ 2 ∷ nobody ∷ nobody ∷ 0 ∷ 1 ∷ []
  pub got_by_3 : issuers_from get_and_start (got_by (other Halted) (with_three 0 0 0)) 10 6 ≡
      3 ∷ 2 ∷ nobody ∷ nobody ∷ 1 ∷ 3 ∷ []

pub record WorkedThreads : Type 0 where
  pub getst : WorkedGetst
  pub init : WorkedInit
  pub starts : WorkedStart
  pub ssync : WorkedSsync
  pub freet : WorkedFreet
  pub getr : WorkedGetThread
  pub ties : WorkedTies
