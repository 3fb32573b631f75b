pub mod FourPlaces
pub mod InTurn
