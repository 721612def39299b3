pub mod Bits
pub mod Changes
pub mod Edges
pub mod Rows
