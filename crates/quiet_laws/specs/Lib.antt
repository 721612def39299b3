pub mod Undisturbed
pub mod Quiet
