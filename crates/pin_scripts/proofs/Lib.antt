pub mod Ports
pub mod Slots
pub mod Index
pub mod Views
pub mod Reading
