pub mod Window
pub mod Columns
pub mod Parts
