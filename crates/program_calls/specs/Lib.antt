pub mod Asked
pub mod Call
pub mod Calls
pub mod Counted
pub mod Input
pub mod Reads
