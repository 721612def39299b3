pub mod Sums
pub mod Counts
pub mod Profile
