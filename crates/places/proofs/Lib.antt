pub mod Adding
pub mod Fours
pub mod TaskFits
