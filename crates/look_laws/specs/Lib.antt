pub mod Moments
pub mod Kept
pub mod Runs
pub mod Rules
pub mod Circles
