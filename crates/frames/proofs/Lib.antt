pub mod NextAges
pub mod BodyFrames
pub mod Tested
pub mod TestFrames
pub mod FrameLengths
pub mod ByKind
pub mod ChainTests
pub mod ChainFrames
