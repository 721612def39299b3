-- The rows with which a thread waits for events and ends what it enabled, and its status, worked out by hand: slot 10.
use Rattle.std.specs.Prelude.{ℕ, ◌≡◌, true, false, Some, [], ◌∷◌, replicate}
use Rattle.xs_model.specs.declared.thread.Thread.{Thread}
use Rattle.xs_model.specs.declared.thread.Run.TheVariants.{Free, Halted, Paused}
use Rattle.xs_model.specs.declared.thread.Wait.TheVariants.{Choice}
use Rattle.xs_model.specs.Status.{status}
use Rattle.xs_model.specs.Record.{NodeRec, EnabledRec, unused_sync, not_enabled}
use Rattle.xs_instructions.specs.declared.instr.Instr.{Instr}
use Rattle.xs_instructions.specs.declared.instr.Instr.TheVariants.{Kernel, Threads, Resources}
use Rattle.xs_instructions.specs.declared.instr.KernelIns.{KernelIns}
use Rattle.xs_instructions.specs.declared.instr.KernelIns.TheVariants as kernel
use Rattle.xs_instructions.specs.declared.instr.ThreadIns.TheVariants as threads
use Rattle.xs_instructions.specs.declared.instr.ResIns.TheVariants as resources
use Rattle.worked_machine.specs.Threads.{other, next, in_10, leaves, by_0, freet}
use Rattle.worked_machine.specs.Timers.{timer}
use Rattle.worked_machine.specs.Events.{gives, gives_nobody, own_event, own_interrupt, other_event, other_interrupt, set_of, lone, eight, named}

-- thread 0 with this status
abbrev pub with_status : ℕ → Thread
with_status bits = record (named 0x002) { sr = status bits }

-- ---- clre

abbrev pub clre : Instr
clre = Resources resources.Clre

-- the status of the thread that issues becomes the second
abbrev pub ClearsStatus : ℕ → ℕ → Type 0
ClearsStatus before after =
    in_10 clre (lone (with_status before) (set_of not_enabled not_enabled not_enabled not_enabled not_enabled not_enabled not_enabled)) ≡
    leaves by_0 (lone (next (with_status after)) (set_of not_enabled not_enabled not_enabled not_enabled not_enabled not_enabled not_enabled))

pub record WorkedClearing : Type 0 where
  -- its events are disabled, of ports too; its interrupts stay, and all that thread 1 enabled
  pub events : in_10 clre (lone (with_status 0) (set_of own_event own_interrupt own_event other_event other_interrupt own_event own_event)) ≡
      leaves by_0 (lone (next (with_status 0)) (set_of (gives_nobody false) own_interrupt (gives_nobody false) other_event other_interrupt (gives_nobody false) (gives_nobody false)))
  pub interrupts : in_10 clre (lone (with_status 0xdf) (set_of own_event own_interrupt own_interrupt own_interrupt own_event own_interrupt own_interrupt)) ≡
      leaves by_0 (lone (next (with_status 0xda)) (set_of (gives_nobody false) own_interrupt own_interrupt own_interrupt (gives_nobody false) own_interrupt own_interrupt))
  pub event_bit : ClearsStatus 1 0
  pub inenb_bit : ClearsStatus 4 0
  pub other_bits : ClearsStatus 0xda 0xda

-- ---- waiteu, waitet and waitef

abbrev pub waiteu : Instr
waiteu = Resources resources.Waiteu

-- r1 has 7, and r2 has 0
abbrev pub waitet_of : ℕ → Instr
waitet_of x = Resources (resources.Waitet x)

abbrev pub waitef_of : ℕ → Instr
waitef_of x = Resources (resources.Waitef x)

-- what thread 0 enabled, and thread 1
abbrev pub some_enabled : EnabledRec
some_enabled = set_of own_event other_event own_interrupt own_event other_interrupt not_enabled not_enabled

-- thread 0 with the first status pauses at the instruction, and has the second
abbrev pub PausesWith : Instr → ℕ → ℕ → Type 0
PausesWith ins before after =
    in_10 ins (lone (with_status before) some_enabled) ≡
    leaves by_0 (lone (record (with_status after) { run = Paused Choice }) some_enabled)

abbrev pub GoesOn : Instr → ℕ → Type 0
GoesOn ins bits =
    in_10 ins (lone (with_status bits) some_enabled) ≡ leaves by_0 (lone (next (with_status bits)) some_enabled)

-- timer 0 without a condition is ready, and thread 0 enabled it for events
abbrev pub ready : Thread → NodeRec
ready mine = record (lone mine some_enabled) {
  core = record (lone mine some_enabled).core { timers = timer 0 false ∷ replicate 9 (timer 2 true) };
}

pub record WorkedWaiting : Type 0 where
  pub always : PausesWith waiteu 0 0x41
  pub keeps_bits : PausesWith waiteu 0x9e 0xdf
  pub again : PausesWith waiteu 0x41 0x41
  pub waitet : PausesWith (waitet_of 1) 0x10 0x51
  pub waitet_of_0 : GoesOn (waitet_of 2) 0x10
  pub waitef : PausesWith (waitef_of 2) 0x10 0x51
  pub waitef_of_7 : GoesOn (waitef_of 1) 0x10
  -- it pauses also where something is ready
  pub ready_too : in_10 waiteu (ready (with_status 0)) ≡ leaves by_0 (ready (record (with_status 0x41) { run = Paused Choice }))

-- ---- setsr and clrsr

-- the first status becomes the second
abbrev pub SetsStatus : KernelIns → ℕ → ℕ → Type 0
SetsStatus ins before after =
    in_10 (Kernel ins) (lone (with_status before) some_enabled) ≡ leaves by_0 (lone (next (with_status after)) some_enabled)

pub record WorkedStatus : Type 0 where
  pub setsr_all : SetsStatus (kernel.Setsr 0xff) 0 0x9f
  pub setsr_most : SetsStatus (kernel.Setsr 0xffff) 0 0x9f
  pub setsr_waiting : SetsStatus (kernel.Setsr 0x40) 0 0
  pub setsr_bit_5 : SetsStatus (kernel.Setsr 0x20) 0x82 0x82
  pub setsr_upper : SetsStatus (kernel.Setsr 0xff00) 0x10 0x10
  pub setsr_one : SetsStatus (kernel.Setsr 2) 0x41 0x43
  pub setsr_none : SetsStatus (kernel.Setsr 0) 0x5a 0x5a
  pub clrsr_all : SetsStatus (kernel.Clrsr 0xff) 0xdf 0x40
  pub clrsr_most : SetsStatus (kernel.Clrsr 0xffff) 0x9f 0
  pub clrsr_waiting : SetsStatus (kernel.Clrsr 0x40) 0xdf 0xdf
  pub clrsr_some : SetsStatus (kernel.Clrsr 0x93) 0xdf 0x4c
  pub clrsr_none : SetsStatus (kernel.Clrsr 0) 0xdf 0xdf
  pub clrsr_unset : SetsStatus (kernel.Clrsr 0x85) 0x1a 0x1a

-- ---- freet, and mjoin r0

abbrev pub mjoin : Instr
mjoin = Threads (threads.Mjoin 0)

-- the threads after mjoin, at synchroniser 1 with slaves 2 and 4
abbrev pub joined : EnabledRec → NodeRec
joined events = record (eight (next (named 0x103) ∷ other Halted ∷ replicate 6 (other Free)) events) {
  core = record (eight (next (named 0x103) ∷ other Halted ∷ replicate 6 (other Free)) events).core {
    syncs = unused_sync ∷ record { master = Some 0; slaves = [] } ∷ replicate 5 unused_sync;
  };
}

pub record WorkedFreed : Type 0 where
  -- events and interrupts of the thread that is freed; what was set of them stays
  pub freet : in_10 freet (lone (with_status 0) (set_of own_event own_interrupt other_event own_interrupt other_interrupt own_event own_event)) ≡
      leaves by_0 (lone (record (next (with_status 0)) { run = Free }) (set_of (gives_nobody false) (gives_nobody true) other_event (gives_nobody true) other_interrupt (gives_nobody false) (gives_nobody false)))
  -- those of both slaves, and no others
  pub mjoin : in_10 mjoin (lone (named 0x103) (set_of (gives false 2) (gives true 4) own_event (gives true 2) other_interrupt (gives false 4) (gives false 3))) ≡
      leaves by_0 (joined (set_of (gives_nobody false) (gives_nobody true) own_event (gives_nobody true) other_interrupt (gives_nobody false) (gives false 3)))

pub record WorkedEventRows : Type 0 where
  pub clearing : WorkedClearing
  pub waiting : WorkedWaiting
  pub status : WorkedStatus
  pub freed : WorkedFreed
