pub mod Depths
pub mod Reports
pub mod Blocks
