pub mod Played
pub mod Stages
