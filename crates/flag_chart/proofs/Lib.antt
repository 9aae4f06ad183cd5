pub mod Table
pub mod IndexLaws
pub mod TextLaws
