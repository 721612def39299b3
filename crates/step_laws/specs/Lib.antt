pub mod StatusBits
pub mod EightSlots
pub mod Pins
pub mod Shape
pub mod Driven
