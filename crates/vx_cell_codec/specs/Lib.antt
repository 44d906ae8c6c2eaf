pub mod Reading
pub mod Filled
pub mod Views
pub mod Columns
