pub mod Settling
pub mod PlanSettling
pub mod HistoryLaws
pub mod RecordSettling
