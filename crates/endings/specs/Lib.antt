pub mod Endings
pub mod Shares
pub mod Verdict
