pub mod LinkSlot
pub mod Travel
pub mod Windows
