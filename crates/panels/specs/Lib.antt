pub mod Operations
pub mod Stored
