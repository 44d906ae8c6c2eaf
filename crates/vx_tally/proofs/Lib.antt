pub mod Sums
pub mod Edits
