pub mod Saved
pub mod Rest
