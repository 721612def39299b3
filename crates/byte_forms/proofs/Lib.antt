pub mod Steps
pub mod Fields
pub mod Parts
pub mod Lists
pub mod Whole
