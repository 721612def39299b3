pub mod Places
pub mod Routes
pub mod Steps
pub mod Starts
