pub mod Entries
pub mod Measured
