pub mod Ends
pub mod Found
pub mod Changed
pub mod Changes
pub mod Actions
pub mod Ports
pub mod Resources
