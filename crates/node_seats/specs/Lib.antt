pub mod Shown
pub mod Seats
pub mod Told
