pub mod Capitals
