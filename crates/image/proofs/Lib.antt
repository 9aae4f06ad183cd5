pub mod Closing
pub mod ReadTrailer
pub mod ReadTask
pub mod ReadTasks
pub mod Bodies
pub mod Writables
