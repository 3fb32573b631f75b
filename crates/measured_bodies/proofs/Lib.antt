pub mod ReadBack
pub mod Touching
pub mod Short
