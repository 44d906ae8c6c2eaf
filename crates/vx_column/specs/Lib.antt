pub mod ColumnView
