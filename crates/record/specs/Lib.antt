pub mod Decoding
pub mod BothChanges
