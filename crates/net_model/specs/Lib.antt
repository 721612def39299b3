pub mod Ways
pub mod Chans
pub mod Links
pub mod Switch
pub mod Quiet
