pub mod NameSteps
pub mod OffsetSteps
pub mod ListSteps
