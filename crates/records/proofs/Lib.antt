pub mod Asking
pub mod Tags
pub mod Inputs
pub mod Words
