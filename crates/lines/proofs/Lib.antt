pub mod Reading
pub mod Writing
pub mod Points
pub mod Text
pub mod Controls
pub mod Theorem
