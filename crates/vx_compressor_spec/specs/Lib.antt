pub mod TableImage
pub mod Statements
