pub mod Tasks
pub mod Groups
pub mod Rooms
