pub mod FirstFault
pub mod CutText
