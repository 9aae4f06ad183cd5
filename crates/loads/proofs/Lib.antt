pub mod GeneratorLaws
pub mod LoadLaws
pub mod Draws
pub mod Clauses
pub mod Vectors
