pub mod Lanes
pub mod ValueLaws
pub mod StoredSteps
