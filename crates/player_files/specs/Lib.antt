pub mod Restores
pub mod Turns
