pub mod RestoreSettling
pub mod RestoreLaws
pub mod Saving
