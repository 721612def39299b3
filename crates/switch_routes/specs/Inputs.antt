-- What an input of the switch is at, in code and in the node record.
use Rattle.std.specs.Prelude.{ℕ, ◌≡◌, ◌<◌, ◌≤◌, List, length, map, replicate, slice_index_or}
use Rattle.std.specs.List.{AllByRecursion}
use Rattle.xs_base.specs.declared.numbers.TheConstants.{LINK_ENDS, CHAN_ENDS, INPUTS, HEADER_BYTES}
use Rattle.xs_model.specs.Masks.{in_mask}
use Rattle.xs_model.specs.Record.{InputRec, Idle, Head1, Head2, Want, Local, Out, Lost}
use Rattle.quiet_model.specs.Still.{acts_alone}
use Rattle.switch_routes.specs.declared.inputs.Input.{Input}
use Rattle.switch_routes.specs.declared.inputs.Input.TheVariants as input

-- the state that an input's value in code stands for
abbrev pub state_of : Input → InputRec
state_of input.Idle = Idle
state_of (input.Head1 high) = Head1 high
state_of (input.Head2 high low) = Head2 high low
state_of (input.Want dest net) = Want dest net
state_of (input.Local chan) = Local chan
state_of (input.Out end headers dest) = Out end headers dest
state_of input.Lost = Lost

-- a channel end that is held is one of 32, a link end one of 8, and three header bytes go out
abbrev pub InputFits : Input → Type 0
InputFits (input.Local chan) = chan < CHAN_ENDS
InputFits (input.Out end headers dest) = (end < LINK_ENDS) × (headers ≤ HEADER_BYTES)
InputFits _ = Unit {0}

-- the states of all inputs
abbrev pub states_in : List Input → List InputRec
states_in states = map state_of states

-- there are 40 inputs, each state fits, and the mask has those that act alone
pub record AreInputs (states : List Input) (alone : ℕ) : Type 0 where
  pub count : length states ≡ INPUTS
  pub fit : AllByRecursion InputFits states
  pub marked : (i : ℕ) → i < 64 → in_mask alone i ≡ acts_alone (slice_index_or (states_in states) i Idle)

-- every input is idle
abbrev pub idle_inputs : List InputRec
idle_inputs = replicate 40 Idle
