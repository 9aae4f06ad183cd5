pub mod Promise3
pub mod Records
