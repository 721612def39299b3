pub mod Slaves
pub mod Masks
pub mod States
