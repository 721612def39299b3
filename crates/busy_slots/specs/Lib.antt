pub mod Busy
pub mod Serial
pub mod Arrivals
