pub mod Entries
pub mod Windows
pub mod Logs
pub mod InFlight
