pub mod PairRanges
pub mod ClipPlaces
pub mod FacePoints
pub mod KeptPoints
pub mod WorldAnswer
