pub mod Standing
mod Stepping
mod Noting
mod Ending
mod Causing
mod Fitting
