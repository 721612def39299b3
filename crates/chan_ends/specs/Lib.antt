pub mod Ends
pub mod Answers
pub mod States
