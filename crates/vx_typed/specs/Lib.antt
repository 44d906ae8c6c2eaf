pub mod CellCode
pub mod Typed
pub mod Lent
