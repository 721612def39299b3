pub mod Entries
pub mod Serial
pub mod Levels
pub mod Ends
pub mod Nodes
pub mod Links
pub mod Shown
