pub mod EventLines
pub mod EventOrder
pub mod Trace
