pub mod Slots
pub mod Clocks
pub mod Still
pub mod Stirs
