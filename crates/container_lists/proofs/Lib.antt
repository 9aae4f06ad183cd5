pub mod Reading
pub mod EveryList
pub mod Playing
pub mod Cases
