pub mod SetLaws
pub mod Words
pub mod Starting
pub mod FrontLaws
