pub mod Begun
pub mod Earlier
