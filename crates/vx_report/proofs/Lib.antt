pub mod Lines
pub mod RowSteps
pub mod TraceSteps
pub mod ZoneSteps
