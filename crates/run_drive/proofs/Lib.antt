pub mod Ends
pub mod Slots
pub mod Lines
pub mod Passes
