pub mod Lists
pub mod Examples
pub mod Named
pub mod SpecSteps
pub mod RowsKept
