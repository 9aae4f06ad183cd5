pub mod Promise3Laws
pub mod Promised
pub mod FirstRecord
