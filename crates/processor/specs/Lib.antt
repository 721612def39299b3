pub mod Program
pub mod Processor
pub mod Knows
pub mod Issue
pub mod NextIssue
pub mod Lends
