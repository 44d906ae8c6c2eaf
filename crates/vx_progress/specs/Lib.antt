pub mod Taken
pub mod Telling
