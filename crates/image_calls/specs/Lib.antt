pub mod Restores
pub mod StoredSaves
