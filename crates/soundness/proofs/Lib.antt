pub mod Sums
pub mod Bytes
pub mod Fits
pub mod Places
