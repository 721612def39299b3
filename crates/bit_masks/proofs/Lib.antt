pub mod OneBit
pub mod Free
