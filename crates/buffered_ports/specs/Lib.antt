pub mod Asks
pub mod Keeps
pub mod Row
pub use Rattle.single_port.specs.declared.answers
pub use Rattle.single_port.specs.declared.state
pub mod Counts
pub mod Edge
pub mod States
