pub mod Lines
pub mod Next
pub mod Verdicts
pub mod Checks
