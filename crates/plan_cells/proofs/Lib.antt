pub mod Lists
pub mod Links
pub mod Places
pub mod AtEnds
pub mod Dealing
pub mod Gathering
