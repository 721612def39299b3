pub mod Counting
pub mod PlacedWords
pub mod Places
