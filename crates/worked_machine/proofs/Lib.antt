pub mod Computes
pub mod ByEffect
