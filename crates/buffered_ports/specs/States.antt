-- What a snapshot may say of the ports of a core.
use Rattle.std.specs.Prelude.{◌<◌, List, slice_index_or}
use Rattle.xs_base.specs.Numbers.{PortNumber}
use Rattle.xs_base.specs.declared.numbers.TheConstants.{PORTS}
use Rattle.single_port.specs.declared.state.PortState.{PortState}
pub use Rattle.single_port.specs.States.{port_state, port_of, off_state, IsPortState}

-- of each of them what it may say of the port with its number
abbrev pub ArePortStates : List PortState → Type 0
ArePortStates states = (p : PortNumber) → p < PORTS → IsPortState p (slice_index_or states p off_state)
