pub mod StoredCalls
pub mod CallPlans
pub mod RecordPlans
