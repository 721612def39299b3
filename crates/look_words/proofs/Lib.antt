pub mod Appended
pub mod LastLabel
