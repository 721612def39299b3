pub mod Appended
pub mod Highest
pub mod Pieces
