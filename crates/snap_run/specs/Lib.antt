pub mod Keeping
pub mod RunsOn
