pub mod Integer
pub mod Signed
pub mod Squares
pub mod Polynomial
pub mod Plane
pub mod Lists
pub mod Loops
pub mod Buffer
