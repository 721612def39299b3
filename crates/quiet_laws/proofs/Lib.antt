pub mod Network
pub mod Ports
pub mod Threads
mod Slot
pub mod Slots
