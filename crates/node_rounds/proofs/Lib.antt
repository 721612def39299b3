mod Places
mod Taking
mod Running
pub mod Routes
mod Steps
mod Handing
mod Fresh
mod Passing
mod Clocks
mod AtEnd
