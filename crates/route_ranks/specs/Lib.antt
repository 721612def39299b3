pub mod Checks
pub mod Links
pub mod Nearest
pub mod Reads
