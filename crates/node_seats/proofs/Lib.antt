pub mod Wired
pub mod Shown
pub mod Seats
