pub mod B2Common
pub mod B2Math
pub mod Ranges
pub mod Coordinates
pub mod Unit
pub mod NearUnit
