pub mod Sends
pub mod States
