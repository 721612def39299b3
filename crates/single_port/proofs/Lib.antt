pub mod Plain
pub mod Fits
pub mod Counted
pub mod States
