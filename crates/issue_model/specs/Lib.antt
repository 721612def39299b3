pub mod Registers
pub mod Sets
pub mod Stores
pub mod Endings
pub mod Seen
pub mod Issues
pub mod Watch
