mod Kept
mod Nodes
mod Changes
