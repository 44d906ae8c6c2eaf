pub mod RowLaws
pub mod RowFits
pub mod BatchLaws
