pub mod Sqrt
pub mod Steps
pub mod Root
