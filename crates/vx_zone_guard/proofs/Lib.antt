pub mod GuardSteps
