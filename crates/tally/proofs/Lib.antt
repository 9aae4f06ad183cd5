pub mod Checks
pub mod Steps
pub mod ListLaws
pub mod TallyLaws
pub mod GivenLaws
pub mod MeanLaws
