pub mod Rule
pub mod Plays
pub mod Ends
pub mod Tries
pub mod Keeps
