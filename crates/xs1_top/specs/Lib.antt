pub mod Asked
pub mod Routes
pub mod Words
