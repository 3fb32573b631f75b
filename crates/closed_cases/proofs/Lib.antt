pub mod PolygonCases
pub mod EdgePolygonCases
pub mod OutlineHeats
pub mod WallHeats
pub mod ChainHeats
pub mod ExportCases
pub mod ExportLawCases
