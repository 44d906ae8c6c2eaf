pub mod Turns
pub mod Guards
