pub mod ByPosition
pub mod Kept
pub mod TraceLines
