pub mod Lists
pub mod PastSteps
pub mod WalkSteps
pub mod CutSteps
pub mod FlushSteps
pub mod Taken
