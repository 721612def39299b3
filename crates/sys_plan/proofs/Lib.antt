pub mod Arcs
pub mod Firsts
mod Past
pub mod Wires
pub mod Routes
pub mod Told
