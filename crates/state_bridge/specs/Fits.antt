-- What the types of a node's state say of its numbers.
use Rattle.std.specs.Prelude.{ℕ, ◌≡◌, ◌<◌, ◌^◌, List, length, slice_index}
use Rattle.std.specs.List.{AllByRecursion}
use Rattle.xs_base.specs.declared.numbers.TheConstants.{THREADS, CHAN_ENDS, TIMERS, CLOCK_BLOCKS, SYNCHRONISERS, LOCKS, PORTS, INPUTS, LINK_ENDS, MEMORY_BYTES}
use Rattle.xs_model.specs.declared.thread.Thread.{Thread}
use Rattle.timers_clocks.specs.declared.state.TimerState.{TimerState}
use Rattle.timers_clocks.specs.declared.state.ClockState.{ClockState}
use Rattle.sync_locks.specs.declared.state.SyncState.{SyncState}
use Rattle.event_unit.specs.declared.state.EnableState.{EnableState}
use Rattle.link_ends.specs.declared.state.EndState.{EndState}
use Rattle.core_step.specs.declared.node_state.NodeState.{NodeState}
use Rattle.byte_forms.specs.Forms.{AreBytes}
use Rattle.state_forms.specs.Buffers.{BufferFits}
use Rattle.state_forms.specs.Chans.{ChanFits}
use Rattle.port_forms.specs.Ports.{FitsHalves}
use Rattle.switch_forms.specs.Inputs.{InputFits}

-- ---- Parts

-- so many elements, of each of which this is so
pub record AreSuch {A : Type 0} (Fits : A → Type 0) (many : ℕ) (elements : List A) : Type 0 where
  pub count : length elements ≡ many
  pub each : AllByRecursion Fits elements

-- so many words
pub record AreWords (many : ℕ) (words : List ℕ) : Type 0 where
  pub count : length words ≡ many
  pub each : (i : ℕ) → slice_index words i < 2 ^ 32

-- its registers are words
pub record ThreadFits (th : Thread) : Type 0 where
  pub r : AreWords 12 th.r
  pub cp : th.cp < 2 ^ 32
  pub dp : th.dp < 2 ^ 32
  pub sp : th.sp < 2 ^ 32
  pub lr : th.lr < 2 ^ 32
  pub pc : th.pc < 2 ^ 32
  pub spc : th.spc < 2 ^ 32
  pub et : th.et < 2 ^ 32
  pub ed : th.ed < 2 ^ 32
  pub sed : th.sed < 2 ^ 32
  pub kep : th.kep < 2 ^ 32
  pub ksp : th.ksp < 2 ^ 32

abbrev pub TimerFits : TimerState → Type 0
TimerFits state = state.value < 2 ^ 32

abbrev pub ClockFits : ClockState → Type 0
ClockFits state = state.div < 2 ^ 8

-- the mask of its slaves has eight bits
abbrev pub SyncFits : SyncState → Type 0
SyncFits state = state.slaves < 2 ^ 8

abbrev pub EnableFits : EnableState → Type 0
EnableFits state = (state.vector < 2 ^ 32) × (state.env < 2 ^ 32)

abbrev pub EndFits : EndState → Type 0
EndFits state = BufferFits state.buffer

-- ---- All of them

-- What every state of a node has: as many of each part as its arrays say, and of the numbers in them what no fact of a node's state says
-- otherwise.
pub record NumbersFit (state : NodeState) : Type 0 where
  pub threads : AreSuch ThreadFits THREADS state.threads
  pub last : length state.last ≡ THREADS
  pub chans : AreSuch ChanFits CHAN_ENDS state.chans
  pub timers : AreSuch TimerFits TIMERS state.timers
  pub clocks : AreSuch ClockFits CLOCK_BLOCKS state.clocks
  pub syncs : AreSuch SyncFits SYNCHRONISERS state.syncs
  pub locks : length state.locks ≡ LOCKS
  pub ports : AreSuch FitsHalves PORTS state.ports
  pub chan_enables : AreSuch EnableFits CHAN_ENDS state.chan_enables
  pub timer_enables : AreSuch EnableFits TIMERS state.timer_enables
  pub port_enables : AreSuch EnableFits PORTS state.port_enables
  pub inputs : AreSuch InputFits INPUTS state.inputs
  pub ends : AreSuch EndFits LINK_ENDS state.ends
  pub levels : AreWords PORTS state.levels
  pub size : length state.memory ≡ MEMORY_BYTES
  pub memory : AreBytes state.memory
