pub mod Packets
pub mod Whole
pub mod Flow
