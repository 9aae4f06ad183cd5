pub mod Generator
pub mod Loads
pub mod Promises
