pub mod Asks
pub mod Keeps
pub mod Inside
pub mod Begins
pub mod States
