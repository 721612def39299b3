-- What a snapshot keeps of a node, the node that it says, and what it may say.
use Rattle.std.specs.Prelude.{ℕ, ◌≡◌, ◌<◌, ◌-◌, true, Option, Some, None, IfSome, List, [], map, replicate, length, slice_index_or}
use Rattle.std.specs.List.{AllByRecursion}
use Rattle.xs_base.specs.Numbers.{Slot, ThreadNumber, ChanNumber, EndNumber, InputNumber}
use Rattle.xs_model.specs.Record.{CoreRec, NodeRec, InputRec, LinkRec, Idle, unused_chan, unused_timer, off_clock, unused_lock, not_enabled, free_thread}
use Rattle.xs_model.specs.Masks.{in_mask}
use Rattle.xs_model.specs.Memory.{first_memory}
use Rattle.xs_model.specs.Outside.{LevelsFit}
use Rattle.xs_model.specs.Threads.{fresh_thread}
use Rattle.net_model.specs.Links.{latest}
use Rattle.net_model.specs.Switch.{is_local_to, is_out_by}
use Rattle.step_model.specs.ThreadRows.{is_taken}
use Rattle.chan_ends.specs.States.{chan_state, chan_of, IsChanState}
use Rattle.timers_clocks.specs.States.{timer_state, timer_of, clock_state, clock_of}
use Rattle.sync_locks.specs.States.{sync_state, sync_of, AreSyncStates, unused_state, lock_state, lock_of, AreLockStates}
use Rattle.buffered_ports.specs.States.{port_state, port_of, off_state, ArePortStates}
use Rattle.event_unit.specs.States.{enable_state, enable_of, AreEnableStates}
use Rattle.link_ends.specs.States.{absent_end, IsEndState}
use Rattle.link_ends.specs.declared.state.EndState.{EndState}
use Rattle.switch_routes.specs.States.{input_state, input_of, AreInputStates, link_of}
use Rattle.core_step.specs.Network.{EndsHaveGaps}
use Rattle.core_step.specs.ThreadStates.{AreThreadStates}
use Rattle.core_step.specs.declared.node_state.NodeState.{NodeState}

-- ---- What a snapshot keeps of a node

-- of a link end the tokens that wait, how many of those sent are without a credit, and the slot of the last one sent
abbrev pub link_state : Option LinkRec → EndState
link_state None = absent_end
link_state (Some link) = record {
  present = true;
  buffer = record { items = link.buffer };
  window = length link.sent - length link.credited;
  last = latest link.sent;
}

-- the state with what there is of this core
abbrev pub with_core : NodeState → CoreRec → NodeState
with_core state core = record state {
  threads = core.threads;
  last = core.slots.last;
  chans = map chan_state core.chans;
  timers = map timer_state core.timers;
  clocks = map clock_state core.clocks;
  syncs = map sync_state core.syncs;
  locks = map lock_state core.locks;
  ports = map port_state core.ports;
  chan_enables = map enable_state core.enabled.chans;
  timer_enables = map enable_state core.enabled.timers;
  port_enables = map enable_state core.enabled.ports;
  division = core.slots.division;
  memory = core.memory;
}

abbrev pub node_state : NodeRec → NodeState
node_state rec = record {
  threads = rec.core.threads;
  last = rec.core.slots.last;
  chans = map chan_state rec.core.chans;
  timers = map timer_state rec.core.timers;
  clocks = map clock_state rec.core.clocks;
  syncs = map sync_state rec.core.syncs;
  locks = map lock_state rec.core.locks;
  ports = map port_state rec.core.ports;
  chan_enables = map enable_state rec.core.enabled.chans;
  timer_enables = map enable_state rec.core.enabled.timers;
  port_enables = map enable_state rec.core.enabled.ports;
  inputs = map input_state rec.inputs;
  ends = map link_state rec.links;
  division = rec.core.slots.division;
  levels = rec.levels;
  memory = rec.core.memory;
}

-- of nothing: every thread is free, no resource is in use, and no link end is there
abbrev pub no_state : NodeState
no_state = record {
  threads = replicate 8 free_thread;
  last = replicate 8 None;
  chans = replicate 32 (chan_state unused_chan);
  timers = replicate 10 (timer_state unused_timer);
  clocks = replicate 6 (clock_state off_clock);
  syncs = replicate 7 unused_state;
  locks = replicate 4 (lock_state unused_lock);
  ports = replicate 29 off_state;
  chan_enables = replicate 32 (enable_state not_enabled);
  timer_enables = replicate 10 (enable_state not_enabled);
  port_enables = replicate 29 (enable_state not_enabled);
  inputs = replicate 40 (input_state Idle);
  ends = replicate 8 absent_end;
  division = None;
  levels = replicate 29 0;
  memory = first_memory [];
}

-- ---- The node that it says

abbrev pub core_rec : NodeState → CoreRec
core_rec state = record {
  threads = state.threads;
  slots = record { last = state.last; division = state.division };
  memory = state.memory;
  chans = map chan_of state.chans;
  timers = map timer_of state.timers;
  clocks = map clock_of state.clocks;
  syncs = map sync_of state.syncs;
  locks = map lock_of state.locks;
  ports = map port_of state.ports;
  enabled = record { chans = map enable_of state.chan_enables; timers = map enable_of state.timer_enables; ports = map enable_of state.port_enables };
}

abbrev pub node_rec : NodeState → NodeRec
node_rec state = record {
  core = core_rec state;
  inputs = map input_of state.inputs;
  links = map link_of state.ends;
  levels = state.levels;
}

-- ---- What it may say

-- what an input of the switch is at
abbrev pub input_at : NodeState → InputNumber → InputRec
input_at state i = slice_index_or (map input_of state.inputs) i Idle

abbrev pub end_at : NodeState → EndNumber → EndState
end_at state end = slice_index_or state.ends end absent_end

-- no channel end and no link end is held by two inputs, and each that is held is in use, or there
pub record AreHeldOnce (state : NodeState) : Type 0 where
  pub chans : (c : ChanNumber) (i j : InputNumber) → is_local_to c (input_at state i) ≡ true → is_local_to c (input_at state j) ≡ true → i ≡ j
  pub ends : (end : EndNumber) (i j : InputNumber) → is_out_by end (input_at state i) ≡ true → is_out_by end (input_at state j) ≡ true → i ≡ j
  pub used : (c : ChanNumber) (i : InputNumber) → is_local_to c (input_at state i) ≡ true → (slice_index_or (map chan_of state.chans) c unused_chan).used ≡ true
  pub present : (end : EndNumber) (i : InputNumber) → is_out_by end (input_at state i) ≡ true → (end_at state end).present ≡ true

-- a slave of a synchroniser is not free
abbrev pub SlavesAreTaken : NodeState → Type 0
SlavesAreTaken state =
    (k : ThreadNumber) (n : ℕ) → in_mask (slice_index_or state.syncs n unused_state).slaves k ≡ true → is_taken (slice_index_or state.threads k fresh_thread).run ≡ true

-- what may be so of each unit of the core by itself
pub record AreUnitStates (state : NodeState) : Type 0 where
  pub threads : AreThreadStates state.threads
  pub chans : AllByRecursion IsChanState state.chans
  pub syncs : AreSyncStates state.syncs
  pub locks : AreLockStates state.locks
  pub ports : ArePortStates state.ports
  pub chan_enables : AreEnableStates state.chan_enables
  pub timer_enables : AreEnableStates state.timer_enables
  pub port_enables : AreEnableStates state.port_enables

-- what may be so of a node whose link ends have these gaps, 0 where there is none: of each unit by itself, of the switch and the
-- link ends, of the levels of the pins, and of several of them
pub record IsNodeState (gaps : List ℕ) (state : NodeState) : Type 0 where
  pub units : AreUnitStates state
  pub inputs : AreInputStates state.inputs
  pub ends : AllByRecursion IsEndState state.ends
  pub levels : LevelsFit state.levels
  pub held : AreHeldOnce state
  pub slaves : SlavesAreTaken state
  pub there : EndsHaveGaps gaps state.ends

-- every slot that it keeps is before this one
pub record IsStateBefore (slot : Slot) (state : NodeState) : Type 0 where
  pub last : AllByRecursion (λ last. IfSome last (λ s. s < slot)) state.last
  pub division : IfSome state.division (λ s. s < slot)
  pub ends : AllByRecursion (λ end. IfSome end.last (λ s. s < slot)) state.ends
