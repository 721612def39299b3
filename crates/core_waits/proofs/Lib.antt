pub mod Members
pub mod AllIn
pub mod SetRuns
pub mod Told
pub mod Bits
pub mod Choosing
pub mod Alike
