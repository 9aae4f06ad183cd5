pub mod Sizes
pub mod Storing
pub mod KeptLaws
pub mod CallLaws
pub mod StepLaws
pub mod Telling
pub mod Promise
