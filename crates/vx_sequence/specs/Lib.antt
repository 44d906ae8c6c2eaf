pub mod Blocks
pub mod Calls
pub mod Entries
pub mod Part
pub mod Universe
