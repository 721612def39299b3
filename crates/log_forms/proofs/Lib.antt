pub mod Pushes
pub mod Writes
pub mod Laws
pub mod Orders
pub mod LinkFacts
pub mod WireFacts
