pub mod Stories
