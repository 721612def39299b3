pub mod Opened
pub mod Explained
