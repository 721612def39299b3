pub mod Threads
pub mod Written
pub mod Lawfulness
pub mod Facts
