pub mod Causes
pub mod Types
pub mod Cells
pub mod Chunks
