pub mod Timers
pub mod Falls
pub mod Alike
pub mod States
