pub mod AnyCondition
pub mod Periods
pub mod States
