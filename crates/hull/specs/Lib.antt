pub mod Hull
pub mod Outline
pub mod Places
