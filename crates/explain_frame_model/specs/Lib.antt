pub mod WordForms
pub mod Script
pub mod FrameBefore
pub mod FrameGifts
pub mod FrameForms
pub mod FrameWords
pub mod FrameTold
