pub mod Limit
pub mod Run
