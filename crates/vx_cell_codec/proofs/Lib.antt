pub mod CellViews
pub mod Loops
pub mod Texts
pub mod FieldLaws
pub mod IntLaws
pub mod CellLaws
pub mod FilledLaws
pub mod ColumnLaws
