pub mod Words
pub mod Order
