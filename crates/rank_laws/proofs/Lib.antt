pub mod Arrives
pub mod Firsts
pub mod Hops
pub mod Nodes
pub mod Rises
pub mod Verdicts
pub mod Held
