pub mod Levels
pub mod LinesBack
pub mod PortNames
pub mod WordsBack
pub mod Apart
pub mod NodeLines
pub mod Taken
