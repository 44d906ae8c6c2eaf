pub mod BuilderView
pub mod Columns
pub mod Filling
pub mod Gathered
pub mod Parts
