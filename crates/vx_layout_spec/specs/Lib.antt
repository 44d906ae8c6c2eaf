pub mod Refusal
pub mod LayoutTree
pub mod Real
pub mod Codec
pub mod Rows
pub mod Parts
