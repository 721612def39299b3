pub mod Events
pub mod OwnOrder
