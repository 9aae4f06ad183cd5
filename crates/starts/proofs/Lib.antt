pub mod Entries
pub mod StartLaws
pub mod Picks
pub mod Planning
pub mod Seeking
pub mod LengthLaws
pub mod Numbers
