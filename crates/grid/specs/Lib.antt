pub mod Grid
pub mod GridOutline
pub mod Demand3
