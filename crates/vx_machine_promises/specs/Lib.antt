pub mod Write
pub mod Reached
pub mod Promises
