pub mod ScriptLines
pub mod FrameLines
pub mod Warnings
