pub mod Able
pub mod Turns
