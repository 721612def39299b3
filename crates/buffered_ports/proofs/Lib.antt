pub mod Row
pub mod First
pub mod High
pub mod Plain
pub mod InTurn
pub mod Counts
pub mod States
