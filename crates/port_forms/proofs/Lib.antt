pub mod Ports
pub mod PortFacts
