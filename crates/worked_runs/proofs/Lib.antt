pub mod Computes
pub mod Verdicts
