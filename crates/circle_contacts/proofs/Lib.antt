pub mod FarthestSide
pub mod Meets
pub mod FirstFour
pub mod CircleManifolds
