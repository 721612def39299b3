pub mod First
pub mod Disabled
pub mod Wakes
pub mod States
