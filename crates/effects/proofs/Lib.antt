pub mod Rows
pub mod Carriable
pub mod Fronts
pub mod Counts
pub mod Changes
pub mod Tags
pub mod Bases
pub mod Carried
