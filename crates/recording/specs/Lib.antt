pub mod CallBytes
pub mod Counts
pub mod Replay
pub mod Ignored
pub mod OneCall
