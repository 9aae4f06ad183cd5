pub mod Beginnings
pub mod Modes
