pub mod Fit
pub mod Over
