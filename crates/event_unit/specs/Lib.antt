pub mod Ready
pub mod Marks
pub mod States
