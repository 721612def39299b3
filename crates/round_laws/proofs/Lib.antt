pub mod Bridge
pub mod Clocks
pub mod Counts
pub mod Leasts
pub mod Positions
