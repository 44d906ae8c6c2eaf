pub mod CostSteps
pub mod Cells
pub mod Steps
pub mod Fitting
pub mod CodeSteps
pub mod OutputSteps
pub mod Cutters
