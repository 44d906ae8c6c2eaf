pub mod Named
pub mod Statements
