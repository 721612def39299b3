pub mod Told
pub mod Stable
