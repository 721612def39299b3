pub mod Ending
pub mod Units
pub mod Found
pub mod Lends
pub mod Named
pub mod Here
