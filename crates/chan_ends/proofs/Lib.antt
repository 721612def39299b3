pub mod Unused
pub mod Marked
pub mod States
