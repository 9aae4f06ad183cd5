pub mod Rows
pub mod Carriable
pub mod Fronted
