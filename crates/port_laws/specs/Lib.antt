pub mod Facts
pub mod Ports
