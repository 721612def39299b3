pub mod Pieces
pub mod Bytes
pub mod LabelWalk
pub mod FirstLabels
pub mod Leads
pub mod Behind
pub mod Writable
