pub mod Reasoning
pub mod Explains
