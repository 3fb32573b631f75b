pub mod Placement
pub mod Lengths
pub mod Faces
pub mod SecondSentence
pub mod TurnNumbers
