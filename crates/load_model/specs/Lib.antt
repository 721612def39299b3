pub mod Load
pub mod Made
