pub mod Filled
pub mod Made
