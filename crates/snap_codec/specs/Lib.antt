pub mod Body
pub mod Snaps
pub mod Reads
