pub mod TextLaws
pub mod WrittenLaws
