pub mod LeastLine
