pub mod Answers
pub mod ReadWaves
pub mod Takes
pub mod Tells
