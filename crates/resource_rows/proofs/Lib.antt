pub mod PortEnds
