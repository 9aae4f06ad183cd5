pub mod Restoring
pub mod Room
