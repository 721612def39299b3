pub mod Run
pub mod Rounds
pub mod Seats
pub mod Sends
pub mod Parts
