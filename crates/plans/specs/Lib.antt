pub mod Puts
pub mod Plans
pub mod Shown
