pub mod Kept
pub mod NodeSlots
pub mod Words
pub mod Changes
