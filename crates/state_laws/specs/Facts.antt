-- What is true of every node that a run reaches, unit by unit.
use Rattle.std.specs.Prelude.{ℕ, ◌≡◌, ◌<◌, ◌≤◌, ◌+◌, ◌^◌, ◌↔◌, Bool, true, false, Option, None, is_some, IfSome, List, [], length, slice_index, slice_index_or}
use Rattle.std.specs.List.{AllByRecursion}
use Rattle.xs_base.specs.Numbers.{Slot, ThreadNumber, ChanNumber, EndNumber, InputNumber, PortNumber}
use Rattle.xs_base.specs.Ids.{port_width}
use Rattle.xs_base.specs.declared.numbers.TheConstants.{THREADS, CHAN_ENDS, LINK_ENDS, HEADER_BYTES, WINDOW_TOKENS}
use Rattle.xs_model.specs.declared.clock.Clock.{Clock}
use Rattle.xs_model.specs.Record.{CoreRec, NodeRec, EnabledRec, PortRec, InputRec, Idle, Head1, Head2, Want, Local, Out, Lost, not_enabled, thread_of, last_of, chan_of, sync_of, lock_of, port_of}
use Rattle.xs_model.specs.Masks.{members}
use Rattle.xs_model.specs.Outside.{LevelsFit}
use Rattle.xs_model.specs.PortActions.{is_transfer_width}
use Rattle.xs_model.specs.Syncs.{is_bound}
use Rattle.xs_instructions.specs.Instr.{InRange}
use Rattle.net_model.specs.Switch.{is_local_to, is_out_by, link_at}
use Rattle.step_model.specs.Fixed.{Fixed}
use Rattle.step_model.specs.Start.{WaysHaveGaps}
use Rattle.step_model.specs.ThreadRows.{is_taken}
use Rattle.port_laws.specs.Facts.{HasFacts}
use Rattle.step_laws.specs.StatusBits.{AllKnown}
use Rattle.step_laws.specs.EightSlots.{HasAllLastIssues}
use Rattle.link_laws.specs.Windows.{IsNodeBefore}
use Rattle.chan_ends.specs.States.{IsChan}
use Rattle.single_port.specs.Asks.{IsClock}
use Rattle.single_port.specs.States.{IsStrobeState}
use Rattle.core_step.specs.ThreadStates.{IsRunState}

-- ---- Threads

-- what each paused thread waits at is there
abbrev pub WaitAtWhatIsThere : CoreRec → Type 0
WaitAtWhatIsThere core = (k : ThreadNumber) → IsRunState (thread_of core k).run

-- every slot that a core keeps is before this one
pub record IsCoreBefore (slot : Slot) (core : CoreRec) : Type 0 where
  pub last : (k : ThreadNumber) → IfSome (last_of core k) (λ s. s < slot)
  pub division : IfSome core.slots.division (λ s. s < slot)

-- ---- Threads that other units name

abbrev pub IsThread : Option ThreadNumber → Type 0
IsThread who = IfSome who (λ k. k < THREADS)

-- who enabled what gives events is a thread
pub record AreByThreads (enabled : EnabledRec) : Type 0 where
  pub chans : (c : ℕ) → IsThread (slice_index_or enabled.chans c not_enabled).thread
  pub timers : (n : ℕ) → IsThread (slice_index_or enabled.timers n not_enabled).thread
  pub ports : (p : ℕ) → IsThread (slice_index_or enabled.ports p not_enabled).thread

-- and so is the owner of a lock; the core notes eight last issues, so that only its eight threads issue
pub record NamesThreads (core : CoreRec) : Type 0 where
  pub lasts : HasAllLastIssues core
  pub enabled : AreByThreads core.enabled
  pub owners : (n : ℕ) → IsThread (lock_of core n).owner

-- some threads in ascending order: they are those of a mask of eight bits
abbrev pub AreOfMask : List ThreadNumber → Type 0
AreOfMask slaves = (mask : ℕ) × (mask < 2 ^ 8) × (slaves ≡ members mask)

-- The master of a synchroniser is a thread, and one that is not in use has no slaves. A slave is a thread, is a slave of one
-- synchroniser, and is not free. The core has eight threads.
pub record SlavesFit (core : CoreRec) : Type 0 where
  pub threads : length core.threads ≡ THREADS
  pub lasts : HasAllLastIssues core
  pub masters : (n : ℕ) → IsThread (sync_of core n).master
  pub unused : (n : ℕ) → (sync_of core n).master ≡ None → (sync_of core n).slaves ≡ []
  pub masks : (n : ℕ) → AreOfMask (sync_of core n).slaves
  pub one : (k : ThreadNumber) (m n : ℕ) → is_bound k (sync_of core m) ≡ true → is_bound k (sync_of core n) ≡ true → m ≡ n
  pub taken : (k : ThreadNumber) (n : ℕ) → is_bound k (sync_of core n) ≡ true → is_taken (thread_of core k).run ≡ true

-- ---- Channel ends and the switch

abbrev pub ChansFit : CoreRec → Type 0
ChansFit core = (c : ChanNumber) → IsChan (chan_of core c)

-- What an input of the switch names is there, where these channel ends are in use and these link ends are there; three header
-- bytes go out, and only a link end takes them.
abbrev pub InputFits : (used : ChanNumber → Bool) (there : EndNumber → Bool) → InputNumber → InputRec → Type 0
InputFits used there i Idle = Unit {0}
InputFits used there i (Head1 high) = i < LINK_ENDS
InputFits used there i (Head2 high low) = i < LINK_ENDS
InputFits used there i (Want dest net) = net < 4
InputFits used there i (Local chan) = (chan < CHAN_ENDS) × (used chan ≡ true)
InputFits used there i (Out end headers dest) = (end < LINK_ENDS) × (headers ≤ HEADER_BYTES) × (there end ≡ true)
InputFits used there i Lost = Unit {0}

-- no two inputs hold the same channel end, or the same link end
pub record InputsFit (used : ChanNumber → Bool) (there : EndNumber → Bool) (inputs : List InputRec) : Type 0 where
  pub each : (i : InputNumber) → InputFits used there i (slice_index_or inputs i Idle)
  pub chans : (c : ChanNumber) (i j : InputNumber) → is_local_to c (slice_index_or inputs i Idle) ≡ true → is_local_to c (slice_index_or inputs j Idle) ≡ true → i ≡ j
  pub ends : (e : EndNumber) (i j : InputNumber) → is_out_by e (slice_index_or inputs i Idle) ≡ true → is_out_by e (slice_index_or inputs j Idle) ≡ true → i ≡ j

abbrev pub chan_is_used : CoreRec → ChanNumber → Bool
chan_is_used core c = (chan_of core c).used

abbrev pub end_is_there : NodeRec → EndNumber → Bool
end_is_there rec end = is_some (link_at rec end)

-- those link ends are there that have a gap
abbrev pub HaveGaps : List ℕ → NodeRec → Type 0
HaveGaps gaps rec = (end : EndNumber) → (end_is_there rec end ≡ true) ↔ (0 < slice_index gaps end)

pub record SwitchFits (gaps : List ℕ) (rec : NodeRec) : Type 0 where
  pub chans : ChansFit rec.core
  pub inputs : InputsFit (chan_is_used rec.core) (end_is_there rec) rec.inputs
  pub ends : HaveGaps gaps rec

-- ---- Link ends

-- at most eight tokens that a link end sent are without a credit, and every slot that it keeps is before this one
pub record LinksFit (gaps : List ℕ) (slot : Slot) (rec : NodeRec) : Type 0 where
  pub many : length rec.links ≡ LINK_ENDS
  pub windows : (end : EndNumber) → IfSome (link_at rec end) (λ link. length link.sent ≤ length link.credited + WINDOW_TOKENS)
  pub before : IsNodeBefore slot rec
  pub ends : HaveGaps gaps rec

-- ---- Ports

-- the clock of port p and its strobe are there, a transfer has one of five numbers of bits, and without buffers one beat
pub record AreSettings (p : PortNumber) (on : Bool) (clock : Clock) (strobe : Option PortNumber) (transfer_width : ℕ) (buffered : Bool) : Type 0 where
  pub goes_by : IsClock clock
  pub let_by : IfSome strobe (IsStrobeState p)
  pub width : on ≡ true → is_transfer_width (port_width p) transfer_width ≡ true
  pub one_beat : on ≡ true → buffered ≡ false → transfer_width ≡ port_width p

abbrev pub IsSet : PortNumber → PortRec → Type 0
IsSet p port = AreSettings p port.on port.clock port.strobe port.transfer_width port.buffered

abbrev pub PortsFit : CoreRec → Type 0
PortsFit core = (p : PortNumber) → HasFacts (port_width p) (port_of core p) × IsSet p (port_of core p)

-- what the pins showed fits them, and so does what their ports drive
pub record PinsFit (rec : NodeRec) : Type 0 where
  pub ports : PortsFit rec.core
  pub levels : LevelsFit rec.levels

-- ---- All of it

-- What is true of a node before a slot, whose link ends have these gaps, 0 where there is none. A snapshot of such a node may be
-- read again.
pub record MayBeKept (gaps : List ℕ) (slot : Slot) (rec : NodeRec) : Type 0 where
  pub known : AllKnown rec.core.threads
  pub waits : WaitAtWhatIsThere rec.core
  pub before : IsCoreBefore slot rec.core
  pub names : NamesThreads rec.core
  pub slaves : SlavesFit rec.core
  pub switch : SwitchFits gaps rec
  pub links : LinksFit gaps slot rec
  pub pins : PinsFit rec

-- What of a plan these facts rest on: the operands of the code are in their ranges, each link end that a way names is there, and
-- the networks are 0 to 3. Every plan's nodes have it.
pub record IsPlanned (fixed : Fixed) : Type 0 where
  pub code : AllByRecursion InRange fixed.code
  pub ways : WaysHaveGaps fixed.routes.ways fixed.routes.gaps
  pub nets : (end : EndNumber) → slice_index fixed.routes.nets end < 4
