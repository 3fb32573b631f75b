pub mod FaceRows
pub mod Faces
pub mod Outlines
pub mod OnFace
