pub mod Parts
pub mod Rows
pub mod Lines
pub mod Turns
pub mod FiveFrames
