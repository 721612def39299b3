pub mod Bits
pub mod FrameLines
pub mod Frame
pub mod FirstFault
pub mod System
pub mod CutText
pub mod CodeLines
