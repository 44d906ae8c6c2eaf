pub mod Given
pub mod Guard
pub mod Statements
