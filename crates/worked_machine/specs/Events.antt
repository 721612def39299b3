-- The rows on events and interrupts, worked out by hand: slot 10, in which nothing that gives them to thread 0 is ready.
use Rattle.std.specs.Prelude.{ℕ, ◌≡◌, Bool, true, false, Some, None, List, [], ◌∷◌, ◌++◌, replicate}
use Rattle.xs_model.specs.declared.thread.Thread.{Thread}
use Rattle.xs_model.specs.declared.thread.Run.TheVariants.{Free, Unstarted, AtSync, Halted}
use Rattle.xs_model.specs.Record.{NodeRec, EnablingRec, EnabledRec, unused_chan, unused_timer, unused_sync, not_enabled}
use Rattle.xs_instructions.specs.declared.instr.Instr.{Instr}
use Rattle.xs_instructions.specs.declared.instr.Instr.TheVariants.{Resources}
use Rattle.xs_instructions.specs.declared.instr.ResIns.TheVariants as resources
use Rattle.net_model.specs.Chans.{got_chan}
use Rattle.worked_machine.specs.Slots.{start, first}
use Rattle.worked_machine.specs.Threads.{other, next, in_10, leaves, by_0, RefusesIn}
use Rattle.worked_machine.specs.Syncs.{freer_0}
use Rattle.worked_machine.specs.Timers.{timer, setc_0}
use Rattle.worked_machine.specs.Time.{rests_by}

-- ---- Nodes

-- what is set of a resource: its mode, and who enabled it
abbrev pub gives : Bool → ℕ → EnablingRec
gives interrupt k = record { vector = 11; environment = 12; interrupt = interrupt; thread = Some k }

abbrev pub gives_nobody : Bool → EnablingRec
gives_nobody interrupt = record { vector = 11; environment = 12; interrupt = interrupt; thread = None }

-- thread 0 enabled it, or thread 1 did: for events, or for interrupts
abbrev pub own_event : EnablingRec
own_event = gives false 0

abbrev pub own_interrupt : EnablingRec
own_interrupt = gives true 0

abbrev pub other_event : EnablingRec
other_event = gives false 1

abbrev pub other_interrupt : EnablingRec
other_interrupt = gives true 1

-- these of channel ends 0, 1 and 31, of timers 0, 1 and 9, and of port 28
abbrev pub set_of : EnablingRec → EnablingRec → EnablingRec → EnablingRec → EnablingRec → EnablingRec → EnablingRec → EnabledRec
set_of c0 c1 c31 t0 t1 t9 p28 = record {
  chans = c0 ∷ c1 ∷ (replicate 29 not_enabled ++ c31 ∷ []);
  timers = t0 ∷ t1 ∷ (replicate 7 not_enabled ++ t9 ∷ []);
  ports = replicate 28 not_enabled ++ p28 ∷ [];
}

-- this of channel end 0, or of timer 0, and what stays as it is of others
abbrev pub of_chan : EnablingRec → EnabledRec
of_chan e = set_of e other_event not_enabled own_interrupt not_enabled other_interrupt own_event

abbrev pub of_timer : EnablingRec → EnabledRec
of_timer e = set_of own_interrupt other_event not_enabled e not_enabled other_interrupt own_event

-- eight threads, of which the first goes; channel end 0 and timers 0 and 9 are in use, whose conditions do not hold
abbrev pub eight : List Thread → EnabledRec → NodeRec
eight threads events = record start {
  core = record start.core {
    threads = threads;
    chans = got_chan ∷ replicate 31 unused_chan;
    timers = timer 2 true ∷ (replicate 8 (record { used = false; value = 2; after = true }) ++ timer 2 true ∷ []);
    clocks = replicate 6 (rests_by 1);
    locks = replicate 4 (record { used = true; owner = None });
    syncs = unused_sync ∷ record { master = Some 0; slaves = 2 ∷ 4 ∷ [] } ∷ replicate 5 unused_sync;
    enabled = events;
  };
}

-- threads 2 and 4 are unstarted, or are in
abbrev pub lone : Thread → EnabledRec → NodeRec
lone mine events = eight (mine ∷ other Halted ∷ other Unstarted ∷ other Free ∷ other AtSync ∷ replicate 3 (other Free)) events

-- thread 0 has a name in r0, 7 in r1, 0 in r2 and 0x77 in r11
abbrev pub named : ℕ → Thread
named name = record first { r = name ∷ 7 ∷ (replicate 9 0 ++ 0x77 ∷ []) }

-- ---- What is set of one resource

-- what is set of the resource in r0 becomes the second, and nothing else changes: of a channel end, and of a timer
pub record Changes (ins : Instr) (before after : EnablingRec) : Type 0 where
  pub chan : in_10 ins (lone (named 0x002) (of_chan before)) ≡ leaves by_0 (lone (next (named 0x002)) (of_chan after))
  pub timer : in_10 ins (lone (named 0x001) (of_timer before)) ≡ leaves by_0 (lone (next (named 0x001)) (of_timer after))

abbrev pub Refuses : Instr → ℕ → Type 0
Refuses ins name = RefusesIn (lone (named name) (of_chan own_interrupt)) ins name

-- names of what gives none: it is not in use, of another node, or of no number; or it is a port, which is off, a synchroniser,
-- a thread, a lock or a clock block, which is on
pub record RefusesNoEvent (ins : Instr) : Type 0 where
  pub unused_chan : Refuses ins 0x102
  pub unused_timer : Refuses ins 0x101
  pub chan_of_other_node : Refuses ins 0x00010002
  pub upper_half : Refuses ins 0x00010001
  pub chan_32 : Refuses ins 0x2002
  pub timer_10 : Refuses ins 0xa01
  pub port : Refuses ins 0x00010000
  pub sync : Refuses ins 0x103
  pub thread : Refuses ins 0x204
  pub lock : Refuses ins 0x005
  pub clock : Refuses ins 0x106
  pub nothing : Refuses ins 0

abbrev pub setv : Instr
setv = Resources (resources.Setv 0)

abbrev pub setev : Instr
setev = Resources (resources.Setev 0)

abbrev pub eeu_0 : Instr
eeu_0 = Resources (resources.Eeu 0)

abbrev pub edu_0 : Instr
edu_0 = Resources (resources.Edu 0)

-- of r1, which has 7, and of r2, which has 0
abbrev pub eet_of : ℕ → Instr
eet_of x = Resources (resources.Eet x 0)

abbrev pub eef_of : ℕ → Instr
eef_of x = Resources (resources.Eef x 0)

-- whoever enabled it
pub record WorkedSetting : Type 0 where
  pub vector : Changes setv own_event (record own_event { vector = 0x77 })
  pub vector_of_other : Changes setv other_interrupt (record other_interrupt { vector = 0x77 })
  pub vector_of_nobodys : Changes setv not_enabled (record not_enabled { vector = 0x77 })
  pub vector_refused : RefusesNoEvent setv
  pub environment : Changes setev own_event (record own_event { environment = 0x77 })
  pub environment_of_other : Changes setev other_interrupt (record other_interrupt { environment = 0x77 })
  pub environment_of_nobodys : Changes setev not_enabled (record not_enabled { environment = 0x77 })
  pub environment_refused : RefusesNoEvent setev
  -- events or interrupts from now on, also of what is enabled
  pub interrupt : Changes (setc_0 0xa) own_event own_interrupt
  pub interrupt_of_other : Changes (setc_0 0xa) other_event other_interrupt
  pub interrupt_again : Changes (setc_0 0xa) own_interrupt own_interrupt
  pub interrupt_refused : RefusesNoEvent (setc_0 0xa)
  pub event : Changes (setc_0 2) own_interrupt own_event
  pub event_of_other : Changes (setc_0 2) other_interrupt other_event
  pub event_again : Changes (setc_0 2) own_event own_event
  pub event_refused : RefusesNoEvent (setc_0 2)

-- vector, environment and mode stay
pub record WorkedEnabling : Type 0 where
  pub eeu : Changes eeu_0 (gives_nobody true) own_interrupt
  pub eeu_again : Changes eeu_0 own_event own_event
  -- thread 0 takes over what thread 1 enabled
  pub eeu_of_other : Changes eeu_0 other_event own_event
  pub eeu_refused : RefusesNoEvent eeu_0
  pub edu : Changes edu_0 own_interrupt (gives_nobody true)
  pub edu_of_other : Changes edu_0 other_event (gives_nobody false)
  pub edu_again : Changes edu_0 (gives_nobody true) (gives_nobody true)
  pub edu_refused : RefusesNoEvent edu_0
  pub eet : Changes (eet_of 1) other_interrupt own_interrupt
  pub eet_of_0 : Changes (eet_of 2) other_interrupt (gives_nobody true)
  pub eet_refused : RefusesNoEvent (eet_of 2)
  pub eef : Changes (eef_of 1) own_event (gives_nobody false)
  pub eef_of_0 : Changes (eef_of 2) other_event own_event
  pub eef_refused : RefusesNoEvent (eef_of 1)
  -- the name itself is a condition
  pub eet_of_its_name : Changes (eet_of 0) (gives_nobody false) own_event

-- ---- freer, which forgets what was set, whoever enabled it

pub record WorkedForgotten : Type 0 where
  pub chan : in_10 freer_0 (lone (named 0x002) (of_chan other_interrupt)) ≡
      leaves by_0 (record (lone (next (named 0x002)) (of_chan not_enabled)) {
        core = record (lone (next (named 0x002)) (of_chan not_enabled)).core { chans = replicate 32 unused_chan };
      })
  pub timer : in_10 freer_0 (lone (named 0x001) (of_timer own_event)) ≡
      leaves by_0 (record (lone (next (named 0x001)) (of_timer not_enabled)) {
        core = record (lone (next (named 0x001)) (of_timer not_enabled)).core {
          timers = unused_timer ∷ (replicate 8 (record { used = false; value = 2; after = true }) ++ timer 2 true ∷ []);
        };
      })

pub record WorkedEvents : Type 0 where
  pub setting : WorkedSetting
  pub enabling : WorkedEnabling
  pub forgotten : WorkedForgotten
