pub mod Capital
