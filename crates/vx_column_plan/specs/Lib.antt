pub mod Columns
pub mod Shared
