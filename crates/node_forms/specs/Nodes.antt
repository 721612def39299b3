-- How what a snapshot keeps of a node stands in bytes: its parts, one after another.
use Rattle.std.specs.Prelude.{ℕ, ◌+◌, ◌^◌, Bool, Option, List, map, zip}
use Rattle.xs_base.specs.Numbers.{Slot}
use Rattle.xs_base.specs.declared.numbers.TheConstants.{THREADS, CHAN_ENDS, TIMERS, CLOCK_BLOCKS, LOCKS, PORTS}
use Rattle.xs_model.specs.declared.thread.Thread.{Thread}
use Rattle.step_model.specs.ThreadRows.{is_taken}
use Rattle.chan_ends.specs.declared.state.ChanState.{ChanState}
use Rattle.timers_clocks.specs.declared.state.TimerState.{TimerState}
use Rattle.timers_clocks.specs.declared.state.ClockState.{ClockState}
use Rattle.sync_locks.specs.declared.state.SyncState.{SyncState}
use Rattle.sync_locks.specs.declared.state.LockState.{LockState}
use Rattle.single_port.specs.declared.state.PortState.{PortState}
use Rattle.event_unit.specs.declared.state.EnableState.{EnableState}
use Rattle.switch_routes.specs.declared.state.InputState.{InputState}
use Rattle.link_ends.specs.declared.state.EndState.{EndState}
use Rattle.core_step.specs.declared.node_state.NodeState.{NodeState}
use Rattle.snap_parts.specs.declared.node.SnapNode.{SnapNode}
use Rattle.xs_model.specs.FirstEvents.{kept_at_most}
use Rattle.byte_forms.specs.Forms.{Form, word, long, below, both, repeat, seen_as, told_by}
use Rattle.state_forms.specs.Threads.{thread}
use Rattle.state_forms.specs.Chans.{chan}
use Rattle.state_forms.specs.Timers.{timer, clock}
use Rattle.state_forms.specs.Syncs.{syncs}
use Rattle.state_forms.specs.Locks.{lock}
use Rattle.port_forms.specs.Ports.{ports}
use Rattle.state_forms.specs.Enables.{enable}
use Rattle.switch_forms.specs.Inputs.{inputs}
use Rattle.switch_forms.specs.Ends.{link_ends}
use Rattle.state_forms.specs.Rest.{division, levels, memory}

-- ---- Threads and resources

-- which threads are not free
abbrev pub taken_of : List (Thread × Option Slot) → List Bool
taken_of threads = map (λ (th : Thread × Option Slot). is_taken th.0.run) threads

abbrev pub CoreFields : Type 0
CoreFields = List (Thread × Option Slot) × (List ChanState × (List TimerState × (List ClockState × (List SyncState × (List LockState × List PortState)))))

-- threads with their last issues, channel ends, timers, clock blocks, synchronisers, locks and ports
unfoldable pub core_fields : Slot → Form CoreFields
core_fields slot =
    both (repeat THREADS (thread slot)) (λ threads. both (repeat CHAN_ENDS chan) (λ chans. both (repeat TIMERS timer) (λ timers. both (repeat CLOCK_BLOCKS clock) (λ clocks.
    both (syncs (taken_of threads)) (λ syncs. both (repeat LOCKS lock) (λ locks. ports))))))

-- ---- What resources give

abbrev pub EnableFields : Type 0
EnableFields = List EnableState × (List EnableState × List EnableState)

-- channel ends, timers and ports
unfoldable pub enable_fields : Form EnableFields
enable_fields = both (repeat CHAN_ENDS enable) (λ chans. both (repeat TIMERS enable) (λ timers. repeat PORTS enable))

-- ---- Switch, link ends and the rest

-- which channel ends are in use
abbrev pub used_of : List ChanState → List Bool
used_of chans = map (λ (c : ChanState). c.used) chans

abbrev pub NetFields : Type 0
NetFields = List InputState × (List EndState × (Option Slot × (List ℕ × List ℕ)))

-- the inputs of the switch of a node whose channel ends in use and whose link ends are these, the link ends, the last division, the levels of the pins, and the memory
unfoldable pub net_fields : List Bool → List Bool → Slot → Form NetFields
net_fields used there slot =
    both (inputs used there) (λ inputs. both (link_ends there slot) (λ ends. both (division slot) (λ division. both levels (λ levels. memory))))

-- ---- Nodes

abbrev pub NodeFields : Type 0
NodeFields = CoreFields × (EnableFields × NetFields)

abbrev pub state_of_fields : NodeFields → NodeState
state_of_fields f = record {
  threads = map (λ (th : Thread × Option Slot). th.0) f.0.0;
  last = map (λ (th : Thread × Option Slot). th.1) f.0.0;
  chans = f.0.1.0;
  timers = f.0.1.1.0;
  clocks = f.0.1.1.1.0;
  syncs = f.0.1.1.1.1.0;
  locks = f.0.1.1.1.1.1.0;
  ports = f.0.1.1.1.1.1.1;
  chan_enables = f.1.0.0;
  timer_enables = f.1.0.1.0;
  port_enables = f.1.0.1.1;
  inputs = f.1.1.0;
  ends = f.1.1.1.0;
  division = f.1.1.1.1.0;
  levels = f.1.1.1.1.1.0;
  memory = f.1.1.1.1.1.1;
}

-- the parts of a state
abbrev pub core_in : NodeState → CoreFields
core_in s = (zip s.threads s.last, (s.chans, (s.timers, (s.clocks, (s.syncs, (s.locks, s.ports))))))

abbrev pub enables_in : NodeState → EnableFields
enables_in s = (s.chan_enables, (s.timer_enables, s.port_enables))

abbrev pub net_in : NodeState → NetFields
net_in s = (s.inputs, (s.ends, (s.division, (s.levels, s.memory))))

abbrev pub fields_of_state : NodeState → NodeFields
fields_of_state s = (core_in s, (enables_in s, net_in s))

-- the state of a node whose link ends are these, in a snapshot of this slot
unfoldable pub node_state : List Bool → Slot → Form NodeState
node_state there slot =
    told_by (both (core_fields slot) (λ core. both enable_fields (λ enables. net_fields (used_of core.1.0) there slot))) state_of_fields fields_of_state

abbrev pub node_of_fields : ℕ × (ℕ × NodeState) → SnapNode
node_of_fields f = record { kept = f.0; more = f.1.0; state = f.1.1 }

abbrev pub fields_of_node : SnapNode → ℕ × (ℕ × NodeState)
fields_of_node n = (n.kept, (n.more, n.state))

-- the block of a node: how many events are kept, how many more there were, and its state
unfoldable pub snap_node : List Bool → Slot → Form SnapNode
snap_node there slot =
    seen_as (both (below word (kept_at_most + 1)) (λ kept. both (below long (2 ^ 63)) (λ more. node_state there slot))) node_of_fields fields_of_node
