pub mod SetEntry
pub mod UnderNumber
