pub mod Addresses
pub mod Ends
