pub mod Aggregates
pub mod Names
pub mod JobSteps
