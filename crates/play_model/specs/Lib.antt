pub mod Play
pub mod PlayText
