pub mod Alone
pub mod Locality
pub mod Horizon
pub mod Levels
