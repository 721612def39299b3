pub mod LineWords
pub mod Kept
