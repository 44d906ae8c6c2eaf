pub mod Pruned
pub mod Statements
