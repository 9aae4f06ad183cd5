pub mod Reached
pub mod Told
