pub mod Matching
pub mod Numbers
pub mod Views
