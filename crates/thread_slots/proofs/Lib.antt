pub mod Best
pub mod Lowest
pub mod Picked
pub mod Turns
pub mod Rested
pub mod Marked
