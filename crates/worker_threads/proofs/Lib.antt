pub mod Nodes
pub mod Teams
