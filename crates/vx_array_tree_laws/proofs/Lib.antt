pub mod FlatLists
pub mod NodeArrays
pub mod ColumnArrays
pub mod Strategies
pub mod ArrayLaws
mod Examples
