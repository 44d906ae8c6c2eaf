pub mod ColumnCount
pub mod Ways
