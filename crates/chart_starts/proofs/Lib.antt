pub mod Values
pub mod Decoded
