pub mod Numbers
pub mod Words
pub mod Ids
pub mod Batch
