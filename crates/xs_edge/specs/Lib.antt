pub mod Calls
pub mod Edge
pub mod Stores
