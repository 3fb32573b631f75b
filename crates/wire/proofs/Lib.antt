pub mod Bytes
pub mod Numbers
pub mod Requests
pub mod Rows
pub mod TwoPoints
pub mod TwosComplement
