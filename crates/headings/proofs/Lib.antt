pub mod Table
pub mod Quarters
pub mod Rule
pub mod Theorem
pub mod Controls
pub mod TurnedNormal
