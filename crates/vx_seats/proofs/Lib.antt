mod Ahead
pub mod History
mod Ranges
mod Room
pub mod Turns
pub mod Whole
