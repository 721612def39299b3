pub mod Facts
pub mod Laws
pub mod Runs
