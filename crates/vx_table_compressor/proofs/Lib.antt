pub mod SameSteps
pub mod CodeSteps
pub mod ImageSteps
