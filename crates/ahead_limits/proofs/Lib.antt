pub mod Bounds
pub mod Ends
pub mod Kept
pub mod Reached
pub mod Steps
pub mod Told
