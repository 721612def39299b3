pub mod OnSystem
pub mod Taken
