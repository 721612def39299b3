pub mod Circles
pub mod Laws
pub mod Worked
