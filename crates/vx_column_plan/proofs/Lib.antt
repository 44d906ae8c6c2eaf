pub mod ColumnLaws
pub mod SharedLaws
