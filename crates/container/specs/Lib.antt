pub mod Calls
pub mod Stored
pub mod Promised
