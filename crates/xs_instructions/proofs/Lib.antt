pub mod Names
pub mod Entries
pub mod Kept
pub mod Made
pub mod Finds
pub mod Labels
