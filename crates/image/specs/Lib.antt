pub mod Readings
pub mod Writable
