pub mod Digits
pub mod Made
