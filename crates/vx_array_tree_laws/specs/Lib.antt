pub mod Flats
pub mod Statements
