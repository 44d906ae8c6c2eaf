pub mod Lengths
pub mod Text
pub mod Views
