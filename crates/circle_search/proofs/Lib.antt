pub mod Left
pub mod Stays
pub mod Walks
pub mod Steps
pub mod Turns
