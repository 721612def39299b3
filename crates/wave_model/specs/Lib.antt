pub mod Lines
pub mod Waves
pub mod Reads
pub mod Runs
pub mod Form
