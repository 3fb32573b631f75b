pub mod Coordinates
pub mod Parts
