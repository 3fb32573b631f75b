pub mod Literals
pub mod Value
