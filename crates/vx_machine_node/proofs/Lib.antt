pub mod DueSteps
pub mod Fitting
pub mod GroupSizes
pub mod ReservedSteps
pub mod LedgerSteps
pub mod ListParts
