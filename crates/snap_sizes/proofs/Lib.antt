pub mod Chains
pub mod Fields
pub mod Nodes
pub mod Logs
pub mod Whole
