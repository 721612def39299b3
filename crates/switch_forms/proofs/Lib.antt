pub mod Inputs
pub mod InputFacts
pub mod Ends
pub mod EndFacts
pub mod HeldFacts
