pub mod Able
pub mod Served
pub mod Settles
pub mod Issues
pub mod NextIssues
pub mod Parts
pub mod Eligible
pub mod Firsts
