pub mod Answering
pub mod Fitting
pub mod Given
pub mod Rows
pub mod Widths
