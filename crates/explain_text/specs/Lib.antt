pub mod Values
pub mod Found
pub mod Lines
pub mod Spots
