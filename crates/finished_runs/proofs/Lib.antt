pub mod Nodes
pub mod AtLimit
