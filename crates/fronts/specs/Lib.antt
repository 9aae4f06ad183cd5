pub mod Sets
pub mod Fronts
