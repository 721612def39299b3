pub mod Stories
pub mod Histories
