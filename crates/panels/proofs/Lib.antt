pub mod PanelLaws
pub mod OperationLaws
pub mod CarryLaws
pub mod CheckLaws
