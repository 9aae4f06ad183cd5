pub mod Tallied
pub mod Tallies
