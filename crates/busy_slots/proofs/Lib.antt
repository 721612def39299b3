mod Shape
mod Arriving
mod Passing
mod Idle
pub mod Brought
