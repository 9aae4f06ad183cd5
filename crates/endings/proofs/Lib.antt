pub mod Parts
pub mod Tables
pub mod Numbers
pub mod Verdicts
pub mod Sharing
