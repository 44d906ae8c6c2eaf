pub mod Blocks
pub mod Bytes
pub mod Filter
pub mod Values
