pub mod InFlight
pub mod Parts
pub mod Snaps
