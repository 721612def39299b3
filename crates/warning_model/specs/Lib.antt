pub mod Warning
pub mod Ways
pub mod Named
pub mod Source
pub mod Warnings
pub mod Texts
