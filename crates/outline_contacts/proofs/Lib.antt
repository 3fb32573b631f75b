pub mod RowPlaces
pub mod Lowest
pub mod Gathered
pub mod Separation
pub mod Chosen
pub mod Written
pub mod Axes
