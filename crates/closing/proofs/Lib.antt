pub mod Gaps
pub mod Closable
pub mod Closed
pub mod Marked
