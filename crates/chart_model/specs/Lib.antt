pub mod Marks
pub mod Columns
pub mod Chart
