pub mod Places
pub mod Resources
pub mod Waits
pub mod Network
pub mod WaitGraph
pub mod States
