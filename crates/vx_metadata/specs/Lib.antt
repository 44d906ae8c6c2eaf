pub mod Values
pub mod Spelled
pub mod Reading
pub mod Views
pub mod Kept
