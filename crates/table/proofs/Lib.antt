pub mod BeginningLaws
pub mod ModeLaws
