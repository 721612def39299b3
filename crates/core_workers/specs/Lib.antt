pub mod Finished
pub mod Worker
pub mod Run
pub mod Turns
pub mod Steps
pub mod Gathered
