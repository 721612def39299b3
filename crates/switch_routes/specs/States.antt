-- The inputs of the switch, and the row of link ends, in a snapshot.
use Rattle.std.specs.Prelude.{ℕ, ◌≡◌, ◌<◌, ◌≤◌, Bool, true, false, Option, Some, None, List, map, drop, if◌then◌else◌}
use Rattle.std.specs.List.{AllByRecursion}
use Rattle.xs_base.specs.Numbers.{NodeId}
use Rattle.xs_base.specs.declared.numbers.TheConstants.{LINK_ENDS, CHAN_ENDS, HEADER_BYTES}
use Rattle.xs_model.specs.Dests.{dest_of, id_of}
use Rattle.xs_model.specs.Record.{LinkRec, InputRec, Idle, Head1, Head2, Want, Local, Out, Lost}
use Rattle.net_model.specs.Chans.{is_chan_id}
use Rattle.link_ends.specs.Counts.{EndCounts}
use Rattle.link_ends.specs.States.{end_state, absent_end, end_of}
use Rattle.link_ends.specs.declared.state.EndState.{EndState}
use Rattle.switch_routes.specs.Switch.{SwitchRec, idle_switch}
use Rattle.switch_routes.specs.declared.state.InputState.{InputState}
use Rattle.switch_routes.specs.declared.state.InputState.TheVariants as kept

-- what a snapshot keeps of an input
abbrev pub input_state : InputRec → InputState
input_state Idle = kept.Idle
input_state (Head1 high) = kept.Head1 high
input_state (Head2 high low) = kept.Head2 high low
input_state (Want dest net) = kept.Want (id_of dest) net
input_state (Local chan) = kept.Local chan
input_state (Out end headers dest) = kept.Out end headers (id_of dest)
input_state Lost = kept.Lost

-- what an input is at by a state
abbrev pub input_of : InputState → InputRec
input_of kept.Idle = Idle
input_of (kept.Head1 first) = Head1 first
input_of (kept.Head2 first second) = Head2 first second
input_of (kept.Want dest net) = Want (dest_of dest) net
input_of (kept.Local chan) = Local chan
input_of (kept.Out end count dest) = Out end count (dest_of dest)
input_of kept.Lost = Lost

-- whether an input waits for the second or the third byte of a header
abbrev pub in_header : InputRec → Bool
in_header (Head1 high) = true
in_header (Head2 high low) = true
in_header _ = false

-- what holds of every input: what it names is there, and three header bytes go out
abbrev pub IsInput : InputRec → Type 0
IsInput (Want dest net) = (dest.chan < 256) × (net < 4)
IsInput (Local chan) = chan < CHAN_ENDS
IsInput (Out end headers dest) = (end < LINK_ENDS) × (headers ≤ HEADER_BYTES) × (dest.chan < 256)
IsInput _ = Unit {0}

-- a state says what may be so of an input: its destination is some channel end's
abbrev pub IsInputState : InputState → Type 0
IsInputState (kept.Want dest net) = (is_chan_id dest ≡ true) × (net < 4)
IsInputState (kept.Local chan) = chan < CHAN_ENDS
IsInputState (kept.Out end count dest) = (end < LINK_ENDS) × (count ≤ HEADER_BYTES) × (is_chan_id dest ≡ true)
IsInputState _ = Unit {0}

-- the states of all inputs: only those of link ends, which come first, take headers
pub record AreInputStates (states : List InputState) : Type 0 where
  pub each : AllByRecursion IsInputState states
  pub headers : AllByRecursion (λ s. in_header (input_of s) ≡ false) (drop LINK_ENDS states)

-- the switch of a node with this id, these ways and these networks of link ends, by the states of its inputs
abbrev pub switch_by : NodeId → List ℕ → List ℕ → List InputState → SwitchRec
switch_by id ways nets states = record (idle_switch id ways nets) { inputs = map input_of states }

-- what a snapshot keeps of a link end, whether it is there or not
abbrev pub place_state : Option EndCounts → EndState
place_state None = absent_end
place_state (Some counts) = end_state counts

-- the link record that a state says, where the link end is there
abbrev pub link_of : EndState → Option LinkRec
link_of state = if state.present then Some (end_of state) else None
