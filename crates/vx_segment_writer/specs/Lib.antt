pub mod Head
pub mod Segment
pub mod Encoding
pub mod Written
pub mod Views
