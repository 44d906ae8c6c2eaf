pub mod StringSteps
pub mod Joins
