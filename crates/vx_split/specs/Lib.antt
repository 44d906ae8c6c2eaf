pub mod ListState
pub mod Offsets
pub mod Causes
