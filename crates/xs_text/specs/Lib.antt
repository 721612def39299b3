pub mod Bytes
pub mod Lines
pub mod Tokens
pub mod Numbers
pub mod Words
