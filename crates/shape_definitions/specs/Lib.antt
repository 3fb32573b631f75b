pub mod Answers
pub mod Refusal
pub mod Outline
pub mod Polygon
pub mod Boxes
pub mod Validate
pub mod Edge
pub mod Circle
