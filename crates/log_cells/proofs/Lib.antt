pub mod Seats
pub mod Kept
pub mod Turns
pub mod Looks
pub mod Keeping
pub mod Counting
