pub mod Stops
pub mod Near
