pub mod AddUp
