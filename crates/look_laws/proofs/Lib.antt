pub mod Graph
pub mod Places
pub mod Members
