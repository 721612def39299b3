pub mod Ports
