pub mod Bound
pub mod Horizon
pub mod Kept
pub mod Schedule
