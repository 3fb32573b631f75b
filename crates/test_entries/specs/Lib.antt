pub mod Numbers
pub mod Outlines
pub mod Walls
pub mod Pairs
pub mod Points
pub mod ByNumber
pub mod Measured
