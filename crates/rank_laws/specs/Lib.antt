pub mod Walks
pub mod Held
