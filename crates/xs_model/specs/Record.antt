-- The node record: all that a node keeps from slot to slot, as plain data.
use Rattle.std.specs.Prelude.{ℕ, Bool, false, List, [], ◌∷◌, Option, Some, None, replicate, slice_index_or, slice_set}
use Rattle.xs_base.specs.Numbers.{Slot, Word, ThreadNumber, ChanNumber, EndNumber, PortNumber, Identifier}
use Rattle.xs_base.specs.declared.token.Token.{Token}
use Rattle.xs_model.specs.declared.clock.Clock.{Clock}
use Rattle.xs_model.specs.declared.clock.Clock.TheVariants.{Reference}
use Rattle.xs_model.specs.declared.dest.Dest.{Dest}
use Rattle.xs_model.specs.declared.thread.Thread.{Thread}
use Rattle.xs_model.specs.declared.thread.Run.{Run}
use Rattle.xs_model.specs.declared.thread.Run.TheVariants.{Free}
use Rattle.xs_model.specs.Threads.{fresh_thread, first_thread}
use Rattle.xs_model.specs.Memory.{first_memory}

-- a channel end: whether it is in use, the network that its packets take, where it sends to, and the tokens that wait in its
-- two buffers
pub record ChanRec : Type 0 where
  pub used : Bool
  pub net : ℕ  -- 0 to 3
  pub dest : Option Identifier
  pub output : List Token
  pub input : List Token

abbrev pub unused_chan : ChanRec
unused_chan = record { used = false; net = 0; dest = None; output = []; input = [] }

-- a timer: whether it is in use, the value of its condition, and whether it has the condition
pub record TimerRec : Type 0 where
  pub used : Bool
  pub value : Word
  pub after : Bool

abbrev pub unused_timer : TimerRec
unused_timer = record { used = false; value = 0; after = false }

-- a clock block: whether it is on, its divider, and whether it runs
pub record ClockRec : Type 0 where
  pub on : Bool
  pub divider : ℕ
  pub running : Bool

abbrev pub off_clock : ClockRec
off_clock = record { on = false; divider = 0; running = false }

-- a synchroniser: its master, which is the thread that got it, and the threads bound to it, in ascending order; it is in
-- use where it has a master
pub record SyncRec : Type 0 where
  pub master : Option ThreadNumber
  pub slaves : List ThreadNumber

abbrev pub unused_sync : SyncRec
unused_sync = record { master = None; slaves = [] }

pub record LockRec : Type 0 where
  pub used : Bool
  pub owner : Option ThreadNumber

abbrev pub unused_lock : LockRec
unused_lock = record { used = false; owner = None }

-- what a port's condition compares with its value
pub data Condition : Type 0 where
  Always : Condition
  Equal : Condition
  NotEqual : Condition

-- what a port's transfer register holds: a value of so many bits, and for an output the time that it waits for
pub record TransferRec : Type 0 where
  pub value : Word
  pub bits : ℕ
  pub time : Option ℕ

-- A port: `wanted` is the number of bits that completes a transfer where there is no time; `held` says that the sample in the
-- transfer register was taken at its time and stays until a thread takes it; `shift` has its bits in the order in which they
-- leave.
pub record PortRec : Type 0 where
  pub on : Bool
  pub output : Bool
  pub clock : Clock
  pub counter : ℕ
  pub buffered : Bool
  pub transfer_width : ℕ
  pub wanted : ℕ
  pub value : Word
  pub condition : Condition
  pub time : Option ℕ
  pub shift : List ℕ
  pub transfer : Option TransferRec
  pub held : Bool
  pub sample_stamp : ℕ
  pub stamp : ℕ
  pub strobe : Option PortNumber
  pub driven : Option Word

abbrev pub off_port : PortRec
off_port = record {
  on = false;
  output = false;
  clock = Reference;
  counter = 0;
  buffered = false;
  transfer_width = 0;
  wanted = 0;
  value = 0;
  condition = Always;
  time = None;
  shift = [];
  transfer = None;
  held = false;
  sample_stamp = 0;
  stamp = 0;
  strobe = None;
  driven = None;
}

-- What a channel end, a timer or a port gives where it is ready: an event or an interrupt, with the vector where its
-- handler stands and an environment for it. It gives it to the thread that enabled it.
pub record EnablingRec : Type 0 where
  pub vector : Word
  pub environment : Word
  pub interrupt : Bool
  pub thread : Option ThreadNumber

abbrev pub not_enabled : EnablingRec
not_enabled = record { vector = 0; environment = 0; interrupt = false; thread = None }

-- what each channel end, timer and port gives
pub record EnabledRec : Type 0 where
  pub chans : List EnablingRec  -- 32
  pub timers : List EnablingRec  -- 10
  pub ports : List EnablingRec  -- 29

abbrev pub none_enabled : EnabledRec
none_enabled = record { chans = replicate 32 not_enabled; timers = replicate 10 not_enabled; ports = replicate 29 not_enabled }

-- what one of the switch's inputs is at
pub data InputRec : Type 0 where
  Idle : InputRec
  Head1 : (high : ℕ) → InputRec
  Head2 : (high low : ℕ) → InputRec
  Want : (dest : Dest) (net : ℕ) → InputRec
  Local : (chan : ChanNumber) → InputRec
  Out : (end : EndNumber) (headers : ℕ) (dest : Dest) → InputRec
  Lost : InputRec

-- a link end: the tokens that wait in its buffer, the slots in which it sent a token, and those in which a
-- credit was counted
pub record LinkRec : Type 0 where
  pub buffer : List Token
  pub sent : List Slot
  pub credited : List Slot

-- when each thread issued last, and when the core divided last
pub record SlotsRec : Type 0 where
  pub last : List (Option Slot)  -- 8: the slot of the thread's last issue, or never
  pub division : Option Slot  -- the slot of the core's last division, or never

-- threads that issued last in these slots, on a core that never divided
abbrev pub never_divided : List (Option Slot) → SlotsRec
never_divided last = record { last = last; division = None }

-- what the core itself keeps, by unit: lists of fixed length
pub record CoreRec : Type 0 where
  pub threads : List Thread  -- 8
  pub slots : SlotsRec
  pub memory : List ℕ  -- 65,536 bytes
  pub chans : List ChanRec  -- 32
  pub timers : List TimerRec  -- 10
  pub clocks : List ClockRec  -- 6
  pub syncs : List SyncRec  -- 7
  pub locks : List LockRec  -- 4
  pub ports : List PortRec  -- 29
  pub enabled : EnabledRec

-- a node: its core, its switch, and what is at its edges
pub record NodeRec : Type 0 where
  pub core : CoreRec
  pub inputs : List InputRec  -- 40: those of link ends 0 to 7, then those of channel ends 0 to 31
  pub links : List (Option LinkRec)  -- 8: the link ends, where they are there
  pub levels : List Word  -- 29: what the pins showed at the end of the slot before

abbrev pub free_thread : Thread
free_thread = record fresh_thread { run = Free }

-- a core with these threads, last issues and memory, and all else as at the start: it never divided
abbrev pub core_with : List Thread → List (Option Slot) → List ℕ → CoreRec
core_with threads last memory = record {
  threads = threads;
  slots = never_divided last;
  memory = memory;
  chans = replicate 32 unused_chan;
  timers = replicate 10 unused_timer;
  clocks = replicate 6 off_clock;
  syncs = replicate 7 unused_sync;
  locks = replicate 4 unused_lock;
  ports = replicate 29 off_port;
  enabled = none_enabled;
}

-- a node with this core and these link ends: every input of its switch is idle, and its pins showed 0
abbrev pub node_with : CoreRec → List (Option LinkRec) → NodeRec
node_with core links = record { core = core; inputs = replicate 40 Idle; links = links; levels = replicate 29 0 }

-- a core with this memory as it starts: thread 0 goes at the entry, no other thread is there, nothing was ever issued
abbrev pub first_core : Word → Word → List ℕ → CoreRec
first_core entry cp_at memory = core_with (first_thread entry cp_at ∷ replicate 7 free_thread) (replicate 8 None) memory

-- a node as it starts, with this data
abbrev pub first_node : Word → Word → List ℕ → NodeRec
first_node entry cp_at bytes = node_with (first_core entry cp_at (first_memory bytes)) (replicate 8 None)

abbrev pub thread_of : CoreRec → ThreadNumber → Thread
thread_of core k = slice_index_or core.threads k fresh_thread

-- the slot of a thread's last issue, or never
abbrev pub last_of : CoreRec → ThreadNumber → Option Slot
last_of core k = slice_index_or core.slots.last k None

abbrev pub chan_of : CoreRec → ChanNumber → ChanRec
chan_of core n = slice_index_or core.chans n unused_chan

abbrev pub timer_of : CoreRec → ℕ → TimerRec
timer_of core n = slice_index_or core.timers n unused_timer

abbrev pub clock_of : CoreRec → ℕ → ClockRec
clock_of core n = slice_index_or core.clocks n off_clock

abbrev pub sync_of : CoreRec → ℕ → SyncRec
sync_of core n = slice_index_or core.syncs n unused_sync

abbrev pub lock_of : CoreRec → ℕ → LockRec
lock_of core n = slice_index_or core.locks n unused_lock

abbrev pub port_of : CoreRec → PortNumber → PortRec
port_of core n = slice_index_or core.ports n off_port

abbrev pub with_thread : CoreRec → ThreadNumber → Thread → CoreRec
with_thread core k th = record core { threads = slice_set core.threads k th }

-- what a thread does from now on
abbrev pub with_run : CoreRec → ThreadNumber → Run → CoreRec
with_run core k run = with_thread core k (record (thread_of core k) { run = run })

-- a slot is a thread's last issue now
abbrev pub with_last : CoreRec → ThreadNumber → Slot → CoreRec
with_last core k slot = record core { slots = record core.slots { last = slice_set core.slots.last k (Some slot) } }

abbrev pub with_chan : CoreRec → ChanNumber → ChanRec → CoreRec
with_chan core c chan = record core { chans = slice_set core.chans c chan }

abbrev pub with_timer : CoreRec → ℕ → TimerRec → CoreRec
with_timer core n timer = record core { timers = slice_set core.timers n timer }

abbrev pub with_clock : CoreRec → ℕ → ClockRec → CoreRec
with_clock core n clock = record core { clocks = slice_set core.clocks n clock }

abbrev pub with_port : CoreRec → PortNumber → PortRec → CoreRec
with_port core p port = record core { ports = slice_set core.ports p port }

abbrev pub with_enabled : CoreRec → EnabledRec → CoreRec
with_enabled core enabled = record core { enabled = enabled }

abbrev pub with_sync : CoreRec → ℕ → SyncRec → CoreRec
with_sync core n sync = record core { syncs = slice_set core.syncs n sync }

abbrev pub with_lock : CoreRec → ℕ → LockRec → CoreRec
with_lock core n lock = record core { locks = slice_set core.locks n lock }
