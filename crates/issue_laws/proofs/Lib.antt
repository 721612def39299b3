pub mod Traps
pub mod Switch
pub mod ThreadRows
pub mod Left
pub mod ResourceRows
pub mod OwnRows
pub mod Issue
pub mod Slot
