pub mod Script
pub mod Pins
pub mod Facts
pub mod Shared
