pub mod Knowing
pub mod Statements
