pub mod Arriving
pub mod Histories
