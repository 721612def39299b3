pub mod Syncs
pub mod Answers
pub mod States
