pub mod MemoryWrites
mod WriteSteps
mod SummarySteps
pub mod RunSteps
pub mod Promises
pub mod ShapeSteps
pub mod TableSteps
pub mod JobSteps
mod BackSteps
mod TreeSteps
mod WordSteps
pub mod RowSteps
