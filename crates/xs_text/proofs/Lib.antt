pub mod FirstLine
pub mod FirstToken
pub mod FirstWord
pub mod Digits
pub mod FirstLinePart
